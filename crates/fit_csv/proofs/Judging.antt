-- Judging the rows of a text one after another tells which of them can stand where they are.
use Rattle.fit_csv.proofs.Common.{◌≡◌, ◌∙◌, ◌+◌, [], ◌∷◌, ◌++◌, length, sym, ap, subst, inl, inr, arith, append_assoc, flat_map}
use Rattle.fit_csv.proofs.Common.{TextHasOneNumber, chain_rows, file_rows, AreFilesOf, AreWhole, CanFollow, FirstRows, IsBadCell, IsChainOfRows, IsCutOff}
use Rattle.fit_csv.proofs.Common.{IsRefusedRow, IsRowFault, MayGoOn, IsTextFault, IsUnjudged, ChainStep, Run, nothing_yet, Row, RowsOfText, first_line}
use Rattle.fit_csv.proofs.Common.{IsSoundChain, IsSoundCurrent, current_rows, rows_so_far, CsvFault, Chain}
use Rattle.std.proofs.Common.{ℕ, ◌<◌, List, None}
use Rattle.std.proofs.lemmas.List.{append-nil}
use Rattle.fit_csv.specs.declared.fault.CsvFault.TheVariants as faults
use Rattle.fit_csv.proofs.ChainSteps.{CanStep}
use Rattle.fit_csv.proofs.Completed.{may-go-on}
use Rattle.fit_csv.proofs.MoreRows.{chain-more, chain-sound}
use Rattle.fit_csv.proofs.OneWay.{first-of-run, one-run, run-join, run-one, run-split, tail-same}
use Rattle.fit_csv.proofs.WholeRuns.{chain-run}

sound-run : (c : Chain) (rows : List Row) (t : Chain) → IsSoundChain c → Run c rows t → IsSoundChain t × (rows_so_far t ≡ rows_so_far c ++ rows)
unfolding Run
sound-run c [] t sound same = (subst IsSoundChain same sound, ap rows_so_far (sym same) ∙ sym (append-nil (rows_so_far c)))
sound-run c (r ∷ rows) t sound (m, step, run) =
    let (sound_t, so_far) = sound-run m rows t (chain-sound c r m sound step) run in
    (sound_t, so_far ∙ ap (λ (l : List Row). l ++ rows) (chain-more c r m sound step) ∙ append_assoc (rows_so_far c) (r ∷ []) rows)

pub nothing-sound : IsSoundChain nothing_yet
nothing-sound = record { files = tt; current = omega arith }

-- what holds of what has been read of a chain after the first line
pub judged : (rows : List Row) (c : Chain) → Run nothing_yet rows c → IsSoundChain c × (rows_so_far c ≡ rows)
judged rows c run = sound-run nothing_yet rows c nothing-sound run

pub begins : (rows : List Row) (c : Chain) → Run nothing_yet rows c → MayGoOn (first_line ∷ rows)
begins rows c run = let (sound, so_far) = judged rows c run in subst (λ (l : List Row). MayGoOn (first_line ∷ l)) so_far (may-go-on c sound)

pub one-more : (rows : List Row) (c : Chain) (r : Row) (t : Chain) → Run nothing_yet rows c → ChainStep c r t → Run nothing_yet (rows ++ r ∷ []) t
one-more rows c r t run step = run-join nothing_yet rows (r ∷ []) c t run (run-one c r t step)

pub can-follow : (rows : List Row) (c : Chain) (r : Row) → Run nothing_yet rows c → CanStep c r → CanFollow (first_line ∷ rows) r
can-follow rows c r run (t, step) = begins (rows ++ r ∷ []) t (one-more rows c r t run step)

pub can-step : TextHasOneNumber → (rows : List Row) (c : Chain) (r : Row) → Run nothing_yet rows c → CanFollow (first_line ∷ rows) r → CanStep c r
can-step law rows c r run (files, more, good, e) =
    let rest : flat_map file_rows files ≡ rows ++ (r ∷ more) =
    tail-same first_line first_line (flat_map file_rows files) ((rows ++ r ∷ []) ++ more) e ∙ append_assoc rows (r ∷ []) more in
    let done : Chain = record { files = files; current = None } in
    let whole : Run nothing_yet (rows ++ (r ∷ more)) done = subst (λ (l : List Row). Run nothing_yet l done) rest (chain-run files good) in
    let (m, front, others) = run-split nothing_yet rows (r ∷ more) done whole in
    let same = one-run law nothing_yet rows m c front run in
    first-of-run c r more done (subst (λ (x : Chain). Run x (r ∷ more) done) same others)

bad-cell : (P Q : Row → Type 0) (r : Row) (column : ℕ) → ((other : Row) → P other → Q other) → ((other : Row) → Q other → P other) → IsBadCell P r column
    → IsBadCell Q r column
bad-cell P Q r column up down h = record {
  after_kind = h.after_kind;
  bad = λ other stands. h.bad other (down other stands);
  before = (h.before.0, up h.before.0 h.before.1, h.before.2);
}

-- a row's fault hangs only on which rows can stand there
pub row-fault : (P Q : Row → Type 0) (r : Row) (number : ℕ) (fault : CsvFault) → ((other : Row) → P other → Q other) → ((other : Row) → Q other → P other)
    → IsRowFault P r number fault
    → IsRowFault Q r number fault
row-fault P Q r number (faults.BadRow row) up down (place, inl long) = (place, inl long)
row-fault P Q r number (faults.BadRow row) up down (place, inr none) = (place, inr (λ other stands. none other (down other stands)))
row-fault P Q r number (faults.BadCell row column) up down (place, seven, bad) = (place, seven, bad-cell P Q r column up down bad)
row-fault P Q r number fault up down h = absurd h

followed : TextHasOneNumber → (rows : List Row) (c : Chain) (r : Row) (number : ℕ) (fault : CsvFault) → Run nothing_yet rows c
    → IsRowFault (CanStep c) r number fault
    → IsRowFault (CanFollow (first_line ∷ rows)) r number fault
followed law rows c r number fault run =
    row-fault (CanStep c) (CanFollow (first_line ∷ rows)) r number fault (λ other. can-follow rows c other run) (λ other. can-step law rows c other run)

pub whole-rows : (rows : List Row) (c : Chain) → Run nothing_yet rows c → c.current ≡ None → (first_line ∷ rows ≡ chain_rows c.files) × IsChainOfRows c.files
whole-rows rows c run none =
    let (sound, so_far) = judged rows c run in
    let count = subst (λ m. IsSoundCurrent (length c.files) m) none sound.current in
    let all : rows ≡ flat_map file_rows c.files =
    sym so_far ∙ ap (λ m. flat_map file_rows c.files ++ current_rows m) none ∙ append-nil (flat_map file_rows c.files) in
    (ap (λ (l : List Row). first_line ∷ l) all, (count, sound.files))

pub cut-off : TextHasOneNumber → (rows : List Row) (c : Chain) → Run nothing_yet rows c → (c.current ≡ None → 0 < length c.files → ⊥)
    → AreWhole (first_line ∷ rows) → ⊥
cut-off law rows c run unfinished (files, good, some, e) =
    let rest : rows ≡ flat_map file_rows files = tail-same first_line first_line rows (flat_map file_rows files) e in
    let done : Chain = record { files = files; current = None } in
    let whole : Run nothing_yet rows done = subst (λ (l : List Row). Run nothing_yet l done) (sym rest) (chain-run files good) in
    let same : c ≡ done = one-run law nothing_yet rows c done run whole in
    unfinished (ap (λ (x : Chain). x.current) same) (subst (λ (x : Chain). 0 < length x.files) (sym same) some)

-- the fault of a text is that of its row, unless memory was refused
text-fault : (CanStand : Row → Type 0) (r : Row) (number : ℕ) (text : List ℕ) (fault : CsvFault)
    → (IsRowFault CanStand r number fault → IsRefusedRow text fault) → IsUnjudged CanStand r number fault → IsTextFault text fault
text-fault CanStand r number text (faults.BadRow row) refused h = inl (refused h)
text-fault CanStand r number text (faults.BadCell row column) refused h = refused h
text-fault CanStand r number text faults.NoMemory refused h = tt
text-fault CanStand r number text fault refused h = absurd h

-- the next row can't stand after those of a chain
pub refused-row : TextHasOneNumber → (text : List ℕ) (rows : List Row) (c : Chain) (this : Row) (number : ℕ) (fault : CsvFault)
    → Run nothing_yet rows c → FirstRows text ((first_line ∷ rows) ++ this ∷ []) → number ≡ length rows + 2
    → IsUnjudged (CanStep c) this number fault → IsTextFault text fault
refused-row law text rows c this number fault run read place wrong =
    let counted : number ≡ length (first_line ∷ rows) + 1 = omega (arith, place) in
    text-fault (CanStep c) this number text fault (λ h. record {
      front = first_line ∷ rows;
      this = this;
      read = read;
      some = omega arith;
      begins = begins rows c run;
      wrong = subst (λ n. IsRowFault (CanFollow (first_line ∷ rows)) this n fault) counted (followed law rows c this number fault run h);
    }) wrong

-- the text ends too early
pub cut-text : TextHasOneNumber → (text : List ℕ) (rows : List Row) (c : Chain) → Run nothing_yet rows c → RowsOfText text (first_line ∷ rows)
    → (c.current ≡ None → 0 < length c.files → ⊥)
    → IsCutOff text (length rows + 2)
cut-text law text rows c run read unfinished = record {
  rows = first_line ∷ rows;
  read = read;
  some = omega arith;
  begins = begins rows c run;
  unfinished = cut-off law rows c run unfinished;
  place = omega arith;
}

pub whole-text : (text : List ℕ) (rows : List Row) (c : Chain) → Run nothing_yet rows c → RowsOfText text (first_line ∷ rows) → c.current ≡ None
    → 0 < length c.files → AreFilesOf text c.files
whole-text text rows c run read none some =
    let (same, good) = whole-rows rows c run none in
    (subst (λ (l : List Row). RowsOfText text l) same read, good, some)
