-- One more row of a text is judged, or one more record.
use Rattle.fit_csv.proofs.Common.{◌≡◌, ◌∙◌, ◌≤◌, ◌+◌, [], ◌∷◌, ◌++◌, length, refl, sym, ap, subst, arith, append_assoc, default_config, strip_bom, Reached}
use Rattle.fit_csv.proofs.Common.{TextHasOneNumber, FirstRows, HasNoHeader, ChainStep, nothing_yet, Row, RowsOfText, csv_text, first_line, NoneEmpty}
use Rattle.fit_csv.proofs.Common.{IsSoundChain, IsTextFault, IsUnjudged, AreFilesOf, CsvFault, Chain, inr}
use Rattle.std.proofs.Common.{MatchOption, ℕ, ◌<◌, List, Option, Some, None, length-append}
use Rattle.std.proofs.lemmas.List.{append-nil}
use Rattle.csv.proofs.RoundTrip.{read-write}
use Rattle.csv.specs.Machine.{next_record}
use Rattle.csv.specs.Reading.{AreRecords}
use Rattle.csv.specs.Writing.{default_writer, read_back, row_body, row_text}
use Rattle.csv.specs.declared.parser.State.{State}
use Rattle.csv.specs.declared.parser.State.TheVariants as st
use Rattle.fit_cells.proofs.RowsWithin.{rows-of-text}
use Rattle.fit_csv_text.proofs.SomeRows.{some-rows}
use Rattle.fit_csv_text.specs.Reads.{HasRowBefore}
use Rattle.fit_csv.specs.declared.fault.CsvFault.TheVariants as faults
use Rattle.fit_csv.specs.declared.from.judge.RowJudge.{RowJudge}
use Rattle.fit_csv.specs.inner.Judging.{AreBefore, FailsIn, TakesRows, HasJudged, Judges}
use Rattle.fit_csv.proofs.Judging.{cut-text, judged, one-more, refused-row, whole-text}
use Rattle.fit_csv.proofs.OneWay.{run-join, run-none}

-- ---- the text

first-of : (a b : List Row) (s s3 : State) (xs z : List ℕ) → Reached default_config s xs (a ++ b) s3 z
    → (s2 : State) × (y : List ℕ) × Reached default_config s xs a s2 y
unfolding Reached
first-of [] b s s3 xs z reached = (s, xs, (refl, refl))
first-of (r ∷ a) b s s3 xs z (p, e, is, more) =
    let (s2, y, front) = first-of a b p.1 s3 p.2 z more in
    (s2, y, (p, e, is, front))

front-read : (text : List ℕ) (rows : List Row) (from left : List ℕ) (r : Row) → AreBefore text rows from → HasRowBefore from r left
    → FirstRows text ((first_line ∷ rows) ++ r ∷ [])
front-read text rows from left r before reads =
    let (more, are) = some-rows left in
    let (s, y, reached, none) = before (r ∷ more) (reads more are) in
    first-of ((first_line ∷ rows) ++ r ∷ []) more st.StartRecord s (strip_bom text) y
    (subst (λ (l : List Row). Reached default_config st.StartRecord (strip_bom text) (first_line ∷ l) s y) (sym (append_assoc rows (r ∷ []) more)) reached)

pub few-rows : (text left : List ℕ) (c : Chain) (n : ℕ) → HasJudged text left c n → n ≤ length text
few-rows text left c n h =
    let (more, are) = some-rows left in
    let (s, y, reached, none) = h.before more are in
    omega (arith, h.counted, length-append h.rows more, rows-of-text text (first_line ∷ (h.rows ++ more)) s y reached)

pub judged-sound : (text left : List ℕ) (c : Chain) (n : ℕ) → HasJudged text left c n → IsSoundChain c
judged-sound text left c n h = (judged h.rows c h.run).0

-- ---- one more row

pub row-judged : (text from left : List ℕ) (c t : Chain) (n : ℕ) (r : Row) → HasJudged text from c n → HasRowBefore from r left → ChainStep c r t
    → HasJudged text left t (n + 1)
row-judged text from left c t n r h reads step = record {
  rows = h.rows ++ r ∷ [];
  run = one-more h.rows c r t h.run step;
  before = λ more are. subst (λ (l : List Row). RowsOfText text (first_line ∷ l)) (sym (append_assoc h.rows (r ∷ []) more))
      (h.before (r ∷ more) (reads more are));
  counted = omega (arith, h.counted, length-append h.rows (r ∷ []));
}

pub row-refused : TextHasOneNumber → (text from left : List ℕ) (c : Chain) (n : ℕ) (r : Row) (fault : CsvFault) → HasJudged text from c n
    → HasRowBefore from r left → IsUnjudged (λ (other : Row). (t : Chain) × ChainStep c other t) r (n + 1) fault → IsTextFault text fault
row-refused law text from left c n r fault h reads wrong =
    refused-row law text h.rows c r (n + 1) fault h.run (front-read text h.rows from left r h.before reads) (omega (arith, h.counted)) wrong

-- ---- one more record

back-same : (row : Row) (n : row ≡ [] → ⊥) → read_back row ≡ row
back-same [] n = absurd (n refl)
back-same (x ∷ xs) n = refl

text-then : (rows : List Row) (left : List ℕ) (more : List Row) → NoneEmpty rows → AreRecords default_config st.StartRecord left more
    → AreRecords default_config st.StartRecord (csv_text rows ++ left) (rows ++ more)
unfolding csv_text NoneEmpty Reached
text-then [] left more some are = are
text-then (row ∷ rows) left more some are =
    let (s, y, reached, none) = text-then rows left more some.1 are in
    let rest = csv_text rows ++ left in
    let reads : next_record default_config st.StartRecord [] [] (row_text default_writer row ++ (csv_text rows ++ left))
    ≡ Some (row, st.StartRecord, csv_text rows ++ left) =
    subst (λ (r : Row). next_record default_config st.StartRecord [] [] (row_text default_writer row ++ (csv_text rows ++ left))
    ≡ Some (r, st.StartRecord, csv_text rows ++ left))
    (back-same row some.0) (read-write row rest) in
    subst (λ (t : List ℕ). AreRecords default_config st.StartRecord t (row ∷ (rows ++ more)))
    (sym (append_assoc (row_text default_writer row) (csv_text rows) left))
    (s, y, ((row, st.StartRecord, csv_text rows ++ left), reads, refl, reached), none)

pub record-judged : (text from left after : List ℕ) (c t : Chain) (n count : ℕ) → TakesRows from left count c t → HasJudged text (from ++ after) c n
    → HasJudged text (left ++ after) t (n + count)
record-judged text from left after c t n count goes h =
    let same : csv_text goes.rows ++ (left ++ after) ≡ from ++ after =
    sym (append_assoc (csv_text goes.rows) left after) ∙ ap (λ (l : List ℕ). l ++ after) (sym goes.begins) in record {
      rows = h.rows ++ goes.rows;
      run = run-join nothing_yet h.rows goes.rows c t h.run goes.run;
      before = λ more are. subst (λ (l : List Row). RowsOfText text (first_line ∷ l)) (sym (append_assoc h.rows goes.rows more)) (h.before (goes.rows ++ more)
          (subst (λ (l : List ℕ). AreRecords default_config st.StartRecord l (goes.rows ++ more)) same
          (text-then goes.rows (left ++ after) more goes.some are)));
      counted = omega (arith, h.counted, goes.many, length-append h.rows goes.rows);
    }

-- ---- the start and the end

pub first-judged : (text from left : List ℕ) → strip_bom text ≡ from → HasRowBefore from first_line left → HasJudged text left nothing_yet 1
first-judged text from left is reads = record {
  rows = [];
  run = run-none nothing_yet nothing_yet refl;
  before = λ more are. subst (λ (t : List ℕ). AreRecords default_config st.StartRecord t (first_line ∷ more)) (sym is) (reads more are);
  counted = refl;
}

pub other-first : (text from left : List ℕ) (r : Row) → strip_bom text ≡ from → HasRowBefore from r left → (r ≡ first_line → ⊥) → HasNoHeader text
other-first text from left r is reads other =
    let (more, are) = some-rows left in
    let (s, y, reached, none) = subst (λ (t : List ℕ). AreRecords default_config st.StartRecord t (r ∷ more)) (sym is) (reads more are) in
    inr (r, first-of (r ∷ []) more st.StartRecord s (strip_bom text) y reached, other)

all-read : (text left : List ℕ) (c : Chain) (n : ℕ) (h : HasJudged text left c n) → AreRecords default_config st.StartRecord left []
    → RowsOfText text (first_line ∷ h.rows)
all-read text left c n h none = subst (λ (l : List Row). RowsOfText text (first_line ∷ l)) (append-nil h.rows) (h.before [] none)

nothing-more : (rows : List Row) → AreRecords default_config st.StartRecord [] rows → rows ≡ []
unfolding Reached next_record
nothing-more [] are = refl
nothing-more (r ∷ rows) (s, y, (p, e, is, reached), none) = cc e

no-records : AreRecords default_config st.StartRecord [] []
unfolding Reached next_record
no-records = (st.StartRecord, [], (refl, refl), refl)

-- no row is left
pub none-left : (text from : List ℕ) (c : Chain) (n : ℕ) → HasJudged text from c n → AreRecords default_config st.StartRecord from [] → HasJudged text [] c n
none-left text from c n h none = record {
  rows = h.rows;
  run = h.run;
  before = λ more are. subst (λ (l : List Row). RowsOfText text (first_line ∷ (h.rows ++ l))) (sym (nothing-more more are)) (h.before [] none);
  counted = h.counted;
}

pub all-judged : (text : List ℕ) (c : Chain) (n : ℕ) → HasJudged text [] c n → c.current ≡ None → 0 < length c.files → AreFilesOf text c.files
all-judged text c n h over some = whole-text text h.rows c h.run (all-read text [] c n h no-records) over some

pub cut-off-after : TextHasOneNumber → (text : List ℕ) (c : Chain) (n : ℕ) → HasJudged text [] c n → (c.current ≡ None → 0 < length c.files → ⊥)
    → IsTextFault text (faults.BadRow (n + 1))
cut-off-after law text c n h unfinished =
    let place : length h.rows + 2 ≡ n + 1 = omega (arith, h.counted) in
    subst (λ (k : ℕ). IsTextFault text (faults.BadRow k)) place (inr (cut-text law text h.rows c h.run (all-read text [] c n h no-records) unfinished))

-- ---- texts that were spelled anew

-- what was spelled anew has the rows of what was left
pub spelled-left : (text from left : List ℕ) (c : Chain) (n : ℕ) → HasJudged text from c n
    → ((rows : List Row) → AreRecords default_config st.StartRecord left rows → AreRecords default_config st.StartRecord from rows) → HasJudged text left c n
spelled-left text from left c n h same = record { rows = h.rows; run = h.run; before = λ more are. h.before more (same more are); counted = h.counted }

-- ---- how many rows there may be

row-long : (a b : List ℕ) → 1 ≤ length (a ++ (b ++ (10 ∷ [])))
row-long a b = omega (arith, length-append a (b ++ (10 ∷ [])), length-append b (10 ∷ []))

row-some : (row : Row) → 1 ≤ length (row_text default_writer row)
row-some row = row-long (row_body default_writer row) _

text-long : (rows : List Row) → length rows ≤ length (csv_text rows)
unfolding csv_text
text-long [] = omega arith
text-long (row ∷ rows) =
    omega (arith, row-some row, text-long rows, length-append (row_text default_writer row) (csv_text rows))

-- no more rows than bytes
pub few-taken : (text left : List ℕ) (count : ℕ) (c t : Chain) → TakesRows text left count c t → count ≤ length text
few-taken text left count c t goes =
    let long = ap length goes.begins in
    omega (arith, goes.many, long, length-append (csv_text goes.rows) left, text-long goes.rows)

-- ---- where a record isn't taken, nothing has changed

module _ (from : List ℕ) (a b : RowJudge) (chain : b.chain ≡ a.chain) (rows : b.rows ≡ a.rows) where
  pub before-it : (text : List ℕ) → HasJudged text from a.chain a.rows → HasJudged text from b.chain b.rows
  before-it text h = subst (λ (n : ℕ). HasJudged text from b.chain n) (sym rows) (subst (λ (c : Chain). HasJudged text from c a.rows) (sym chain) h)

  pub judges-from : {X : Type 0} (left : X → List ℕ) (d : RowJudge) (found : Option X)
      → MatchOption found (Judges from [] b d) (λ p. Judges from (left p) b d) → MatchOption found (Judges from [] a d) (λ p. Judges from (left p) a d)
  judges-from left d None j = λ text h. j text (before-it text h)
  judges-from left d (Some p) j = λ text h. j text (before-it text h)

  pub fails-from : (fault : CsvFault) → FailsIn from b fault → FailsIn from a fault
  fails-from fault fails text h = fails text (before-it text h)

-- nothing comes after a text
pub judges-whole : (from left : List ℕ) (a b : RowJudge) → Judges (from ++ []) (left ++ []) a b → Judges from left a b
judges-whole from left a b j text h =
    subst (λ (l : List ℕ). HasJudged text l b.chain b.rows) (append-nil left)
    (j text (subst (λ (l : List ℕ). HasJudged text l a.chain a.rows) (sym (append-nil from)) h))
