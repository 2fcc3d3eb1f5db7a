-- The text of rows reads back as those rows, and a text has one list of rows.
use Rattle.fit_cells.proofs.Common.{◌≡◌, ◌<◌, Bool, inl, inr, arith, length, ◌≢◌, ◌++◌, ◌∷◌, [], ℕ, List, Some, None, true, refl, sym, ◌∙◌, ap, ap₂, subst}
use Rattle.fit_cells.proofs.Common.{eqb-true, Read, next_record, cases_Bool, Reached, AreRecords, default_config, strip_bom, is_bom, default_writer, escaped}
use Rattle.fit_cells.proofs.Common.{field_text, fields_text, is_blank, needs_quotes, read_back, row_text, Config, State, BeginsWithMark, NoneEmpty, Row}
use Rattle.fit_cells.proofs.Common.{RowsOfText, csv_text}
use Rattle.std.proofs.Common.{◌==◌, ◌&&◌, if◌then◌else◌}
use Rattle.csv.proofs.RoundTrip.{read-write}
use Rattle.csv.specs.declared.parser.State.TheVariants as st

back-same : (row : Row) → row ≢ [] → read_back row ≡ row
back-same [] n = absurd (n refl)
back-same (x ∷ xs) n = refl

pub reached-text : (rows : List Row) → NoneEmpty rows → Reached default_config st.StartRecord (csv_text rows) rows st.StartRecord []
unfolding Reached csv_text NoneEmpty
reached-text [] n = (refl, refl)
reached-text (row ∷ rows) (n, more) = (
  (row, st.StartRecord, csv_text rows),
  subst
      (λ (r : Row). next_record default_config st.StartRecord [] [] (row_text default_writer row ++ csv_text rows) ≡ Some (r, st.StartRecord, csv_text rows))
      (back-same row n) (read-write row (csv_text rows)),
  refl,
  reached-text rows more,
)

none-left : next_record default_config st.StartRecord [] [] [] ≡ None
unfolding next_record
none-left = refl

-- ---- byte order marks

head-is : (x y : ℕ) (xs ys : List ℕ) → x ∷ xs ≡ y ∷ ys → x ≡ y
head-is x y xs ys e = cc e

second-is : (a b x y : ℕ) (xs ys : List ℕ) → a ∷ b ∷ xs ≡ x ∷ y ∷ ys → b ≡ y
second-is a b x y xs ys e = cc e

third-is : (a b c x y z : ℕ) (xs ys : List ℕ) → a ∷ b ∷ c ∷ xs ≡ x ∷ y ∷ z ∷ ys → c ≡ z
third-is a b c x y z xs ys e = cc e

all-true : (x y z : Bool) → (x && y && z) ≡ true → (x ≡ true) × (y ≡ true) × (z ≡ true)
all-true true true true e = (refl, refl, refl)
all-true x y z e = cc e

mark-is : (a b c : ℕ) (rest : List ℕ) → is_bom a b c ≡ true → a ∷ b ∷ c ∷ rest ≡ 0xEF ∷ 0xBB ∷ 0xBF ∷ rest
mark-is a b c rest e =
    let (x, y, z) = all-true (a == 0xEF) (b == 0xBB) (c == 0xBF) e in
    cc (eqb-true a 0xEF x, eqb-true b 0xBB y, eqb-true c 0xBF z)

strip-none : (text : List ℕ) → ((rest : List ℕ) → text ≡ 0xEF ∷ 0xBB ∷ 0xBF ∷ rest → ⊥) → strip_bom text ≡ text
unfolding strip_bom
strip-none (a ∷ b ∷ c ∷ rest) none = elim (cases_Bool (is_bom a b c)) [
  | inl mark ↦ absurd (none rest (mark-is a b c rest mark))
  | inr other ↦ rw other refl
]
strip-none text none = refl

abbrev HasMark : List ℕ → Type 0
HasMark text = (more : List ℕ) × (text ≡ 0xEF ∷ 0xBB ∷ 0xBF ∷ more)

mark-first : (a b c : ℕ) (more rest tail : List ℕ) → a ∷ b ∷ c ∷ tail ≡ 0xEF ∷ 0xBB ∷ 0xBF ∷ rest → a ∷ b ∷ c ∷ more ≡ 0xEF ∷ 0xBB ∷ 0xBF ∷ more
mark-first a b c more rest tail e =
    let p = head-is a 0xEF (b ∷ c ∷ tail) (0xBB ∷ 0xBF ∷ rest) e in
    let q = second-is a b 0xEF 0xBB (c ∷ tail) (0xBF ∷ rest) e in
    let r = third-is a b c 0xEF 0xBB 0xBF tail rest e in
    λ i. p i ∷ q i ∷ r i ∷ more

-- where a row begins with a mark, its first field does: a row of one field, and one of more
mark-of-one : (field tail rest : List ℕ)
    → ((field ++ []) ++ ((if length field == 0 then 34 ∷ 34 ∷ [] else []) ++ (10 ∷ []))) ++ tail ≡ 0xEF ∷ 0xBB ∷ 0xBF ∷ rest → HasMark field
mark-of-one [] tail rest e = absurd (omega (arith, head-is 34 0xEF (34 ∷ 10 ∷ tail) (0xBB ∷ 0xBF ∷ rest) e))
mark-of-one (a ∷ []) tail rest e = absurd (omega (arith, second-is a 10 0xEF 0xBB tail (0xBF ∷ rest) e))
mark-of-one (a ∷ b ∷ []) tail rest e = absurd (omega (arith, third-is a b 10 0xEF 0xBB 0xBF tail rest e))
mark-of-one (a ∷ b ∷ c ∷ more) tail rest e = (more, mark-first a b c more rest _ e)

mark-of-more : (field others tail rest : List ℕ) → ((field ++ (44 ∷ others)) ++ (10 ∷ [])) ++ tail ≡ 0xEF ∷ 0xBB ∷ 0xBF ∷ rest → HasMark field
mark-of-more [] others tail rest e = absurd (omega (arith, head-is 44 0xEF ((others ++ (10 ∷ [])) ++ tail) (0xBB ∷ 0xBF ∷ rest) e))
mark-of-more (a ∷ []) others tail rest e = absurd (omega (arith, second-is a 44 0xEF 0xBB ((others ++ (10 ∷ [])) ++ tail) (0xBF ∷ rest) e))
mark-of-more (a ∷ b ∷ []) others tail rest e = absurd (omega (arith, third-is a b 44 0xEF 0xBB 0xBF ((others ++ (10 ∷ [])) ++ tail) rest e))
mark-of-more (a ∷ b ∷ c ∷ more) others tail rest e = (more, mark-first a b c more rest _ e)

-- a field begins with a mark where its cell does
cell-has-mark : (cell : List ℕ) → HasMark (field_text default_writer cell) → HasMark cell
cell-has-mark cell (more, e) = elim (cases_Bool (needs_quotes default_writer cell)) [
  | inl quotes ↦
      let is : field_text default_writer cell ≡ 34 ∷ (escaped default_writer cell ++ (34 ∷ [])) = rw quotes refl in
      absurd (omega (arith, head-is 34 0xEF (escaped default_writer cell ++ (34 ∷ [])) (0xBB ∷ 0xBF ∷ more) (sym is ∙ e)))
  | inr plain ↦
      let is : field_text default_writer cell ≡ cell = rw plain refl in
      (more, sym is ∙ e)
]

row-has-mark : (cell : List ℕ) (cells : Row) (tail rest : List ℕ) → row_text default_writer (cell ∷ cells) ++ tail ≡ 0xEF ∷ 0xBB ∷ 0xBF ∷ rest → HasMark cell
unfolding fields_text is_blank
row-has-mark cell [] tail rest e = cell-has-mark cell (mark-of-one (field_text default_writer cell) tail rest e)
row-has-mark cell (x ∷ cells) tail rest e =
    cell-has-mark cell (mark-of-more (field_text default_writer cell) (field_text default_writer x ++ fields_text default_writer cells) tail rest e)

no-mark : (rows : List Row) → NoneEmpty rows → (BeginsWithMark rows → ⊥) → strip_bom (csv_text rows) ≡ csv_text rows
unfolding csv_text NoneEmpty
no-mark [] n none = strip-none [] (λ rest e. cc e)
no-mark ([] ∷ rows) n none = absurd (n.0 refl)
no-mark ((cell ∷ cells) ∷ rows) n none = strip-none (csv_text ((cell ∷ cells) ∷ rows)) (λ rest e.
    let (more, is) = row-has-mark cell cells (csv_text rows) rest e in
    none (more, cells, rows, ap (λ (c : List ℕ). (c ∷ cells) ∷ rows) is))

-- rows whose first byte is another one
pub begins-otherwise : (b : ℕ) (cell : List ℕ) (cells : Row) (rows : List Row) → b < 0xEF → BeginsWithMark (((b ∷ cell) ∷ cells) ∷ rows) → ⊥
begins-otherwise b cell cells rows less (more, others, rest, e) =
    let same : b ≡ 0xEF = cc e in
    omega (arith, same, less)

-- ---- there and back

pub reads_back : (rows : List Row) → NoneEmpty rows → (BeginsWithMark rows → ⊥) → RowsOfText (csv_text rows) rows
reads_back rows n none = rw (no-mark rows n none) (st.StartRecord, [], reached-text rows n, none-left)

one-way : (cfg : Config) (a b : List Row) (s s1 s2 : State) (xs y1 y2 : List ℕ) → Reached cfg s xs a s1 y1 → next_record cfg s1 [] [] y1 ≡ None
    → Reached cfg s xs b s2 y2 → next_record cfg s2 [] [] y2 ≡ None → a ≡ b
unfolding Reached
one-way cfg [] [] s s1 s2 xs y1 y2 ra na rb nb = refl
one-way cfg [] (r ∷ rs) s s1 s2 xs y1 y2 (es, ex) na (p, e, same, more) nb = cc (rw (← es, ← ex) at na, e)
one-way cfg (r ∷ rs) [] s s1 s2 xs y1 y2 (p, e, same, more) na (es, ex) nb = cc (rw (← es, ← ex) at nb, e)
one-way cfg (r ∷ rs) (q ∷ qs) s s1 s2 xs y1 y2 (p, e, same, more) na (p', e', same', more') nb =
    let pp : p ≡ p' = cc in
    let m : Reached cfg p.1 p.2 qs s2 y2 = rw (← pp) at more' in
    rw (same, same', ← pp, one-way cfg rs qs p.1 s1 s2 p.2 y1 y2 more na m nb) refl

pub reads_one_way : (text : List ℕ) (a b : List Row) → RowsOfText text a → RowsOfText text b → a ≡ b
reads_one_way text a b (s1, y1, ra, na) (s2, y2, rb, nb) = one-way default_config a b st.StartRecord s1 s2 (strip_bom text) y1 y2 ra na rb nb

-- rows read so far are the first rows of the text, and the rest are those of what is left
pub reached-first : (cfg : Config) (pre rows : List Row) (s s2 : State) (xs y : List ℕ) → Reached cfg s xs pre s2 y → AreRecords cfg s xs rows
    → (rest : List Row) × (rows ≡ pre ++ rest) × AreRecords cfg s2 y rest
unfolding Reached
reached-first cfg [] rows s s2 xs y (es, ex) all = (rows, refl, rw (← es, ← ex) all)
reached-first cfg (r ∷ pre) [] s s2 xs y (p, e, same, more) (s3, z, (es, ex), ends) = cc (rw (← es, ← ex) at ends, e)
reached-first cfg (r ∷ pre) (q ∷ rows) s s2 xs y (p, e, same, more) (s3, z, (p', e', same', more'), ends) =
    let pp : p ≡ p' = cc in
    let m : Reached cfg p.1 p.2 rows s3 z = rw (← pp) at more' in
    let (rest, is, left) = reached-first cfg pre rows p.1 s2 p.2 y more (s3, z, m, ends) in
    let head : q ≡ r = same' ∙ ap (λ (x : Read). x.0) (sym pp) ∙ sym same in
    (rest, ap₂ (λ (a : Row) (b : List Row). a ∷ b) head is, left)
