-- What the reader of rows takes of a text is what the crate csv reads.
use Rattle.std.proofs.Common.{◌≡◌, ◌∙◌, ◌≤◌, ◌==◌, ◌||◌, [], ◌∷◌, ◌++◌, ℕ, Bool, List, Option, Some, None, MatchOption, if◌then◌else◌}
use Rattle.std.proofs.Common.{length, true, false, refl, sym, ap, subst, inl, inr, arith}
use Rattle.std.proofs.lemmas.Bool.{cases_Bool}
use Rattle.std.proofs.lemmas.List.{append-nil}
use Rattle.std.proofs.lemmas.Option.{same_Some}
use Rattle.csv.specs.Machine.{Read, ends_at_end, field_after, fields_after, in_field, is_end, next_record, start_field, start_record, step}
use Rattle.csv.specs.Reading.{AreRecords, default_config}
use Rattle.csv.specs.Records.{fields_of}
use Rattle.csv.specs.declared.parser.Action.{Action}
use Rattle.csv.specs.declared.parser.Action.TheVariants as act
use Rattle.csv.specs.declared.parser.State.{State}
use Rattle.csv.specs.declared.parser.State.TheVariants as st
use Rattle.fit_cells.specs.Rows.{Row}
use Rattle.fit_csv_text.specs.Reads.{HasRowBefore}
use Rattle.fit_csv_text.specs.declared.reader.RowReader.{RowReader}
use Rattle.fit_csv_text.specs.inner.Loose.{RowsFrom}
use Rattle.fit_csv_text.specs.inner.RowReads.{HasRowsAfter, IsBegun, place_state, read_on}
use Rattle.fit_csv_text.proofs.LooseReads.{moved, records, rows-from}

-- one byte
pub byte-read : (s n : State) (a : Action) (fields : List (List ℕ)) (field : List ℕ) (c : ℕ) (more : List ℕ)
    → n ≡ (step default_config s c).0 → a ≡ (step default_config s c).1
    → next_record default_config s fields field (c ∷ more)
    ≡ (if is_end a then Some (fields_after a fields field, n, more)
    else next_record default_config n (fields_after a fields field) (field_after a c field) more)
unfolding next_record
byte-read s n a fields field c more place deed = rw (place, deed) refl

-- ---- between two rows

-- the end of a row leaves the machine between two rows
between-bare : (c : ℕ) → is_end (in_field default_config c).1 ≡ true → ends_at_end (in_field default_config c).0 ≡ false
between-bare c ends = elim (cases_Bool (c == 44)) [
  | inl comma ↦ cc (rw comma at ends)
  | inr other ↦ elim (cases_Bool (c == 13)) [
    | inl return ↦ rw (other, return) refl
    | inr plain ↦ elim (cases_Bool (c == 10)) [
      | inl line ↦ rw (other, plain, line) refl
      | inr copied ↦ cc (rw (other, plain, copied) at ends)
    ]
  ]
]

abbrev BetweenRows : State × Action → Type 0
BetweenRows x = is_end x.1 ≡ true → ends_at_end x.0 ≡ false

either : (b : Bool) (x y : State × Action) → BetweenRows x → BetweenRows y → BetweenRows (if b then x else y)
either true x y p q = p
either false x y p q = q

between-cell : (c : ℕ) → BetweenRows (start_field default_config c)
between-cell c = either (c == 34) (st.InQuoted, act.Skip) (in_field default_config c) (λ e. cc e) (between-bare c)

between-row : (c : ℕ) → BetweenRows (start_record default_config c)
between-row c = either ((c == 13) || (c == 10)) (st.StartRecord, act.Skip) (start_field default_config c) (λ e. cc e) (between-cell c)

between : (s : State) (c : ℕ) → BetweenRows (step default_config s c)
between st.StartRecord c = between-row c
between st.StartField c = between-cell c
between st.InField c = between-bare c
between st.InQuoted c = either (c == 34) (st.AfterQuote, act.Skip) (st.InQuoted, act.Copy) (λ e. cc e) (λ e. cc e)
between st.InEscape c = λ e. cc e
between st.AfterQuote c = either (c == 34) (st.InQuoted, act.Copy) (in_field default_config c) (λ e. cc e) (between-bare c)
between st.InComment c = either (c == 10) (st.StartRecord, act.Skip) (st.InComment, act.Skip) (λ e. cc e) (λ e. cc e)
between st.AfterCr c = either (c == 10) (st.StartRecord, act.Skip) (start_record default_config c) (λ e. cc e) (between-row c)

-- a row that is read ends between two rows, and no byte comes twice
pub row-taken : (s : State) (fields : List (List ℕ)) (field xs : List ℕ) (p : Read) → next_record default_config s fields field xs ≡ Some p
    → (ends_at_end p.1 ≡ false) × (length p.2 ≤ length xs)
unfolding next_record
row-taken s fields field [] p e = elim (cases_Bool (ends_at_end s)) [
  | inl ends ↦
      let is = same_Some _ p (rw ends at e) in
      (ap (λ (q : Read). ends_at_end q.1) (sym is), subst (λ (q : Read). length q.2 ≤ 0) is (omega arith))
  | inr none ↦ cc (rw none at e)
]
row-taken s fields field (c ∷ rest) p e = elim (cases_Bool (is_end (step default_config s c).1)) [
  | inl end ↦
      let is = same_Some _ p (rw end at e) in
      (ap (λ (q : Read). ends_at_end q.1) (sym is) ∙ between s c end, subst (λ (q : Read). length q.2 ≤ length (c ∷ rest)) is (omega arith))
  | inr goes ↦
      let (ends, less) = row-taken (step default_config s c).0 (fields_after (step default_config s c).1 fields field)
      (field_after (step default_config s c).1 c field) rest p (rw goes at e) in
      (ends, omega (arith, less))
]

-- after a carriage return a row begins as anywhere
after-return : (fields : List (List ℕ)) (field text : List ℕ)
    → next_record default_config st.AfterCr fields field text ≡ next_record default_config st.StartRecord fields field text
unfolding next_record
after-return fields field [] = refl
after-return fields field (c ∷ text) = elim (cases_Bool (c == 10)) [
  | inl line ↦ rw line (elim (cases_Bool (c == 13)) [ inl return ↦ rw return refl | inr other ↦ rw other refl ])
  | inr other ↦ rw other refl
]

-- rows between two rows are those at the start of a row
pub rows-between : (s : State) (text : List ℕ) (rows : List Row) → ends_at_end s ≡ false → AreRecords default_config st.StartRecord text rows
    → AreRecords default_config s text rows
rows-between st.StartRecord text rows ends are = are
rows-between st.AfterCr text rows ends are =
    records st.AfterCr text rows (moved st.AfterCr st.StartRecord [] [] [] [] text text rows (after-return [] [] text) (rows-from st.StartRecord text rows are))
rows-between st.StartField text rows ends are = cc ends
rows-between st.InField text rows ends are = cc ends
rows-between st.InQuoted text rows ends are = cc ends
rows-between st.InEscape text rows ends are = cc ends
rows-between st.AfterQuote text rows ends are = cc ends
rows-between st.InComment text rows ends are = cc ends

-- a line feed between two rows
pub line-skipped : (text : List ℕ) (rows : List Row) → AreRecords default_config st.StartRecord text rows
    → AreRecords default_config st.StartRecord (10 ∷ text) rows
unfolding next_record
line-skipped text rows are =
    records st.StartRecord (10 ∷ text) rows
    (moved st.StartRecord st.StartRecord [] [] [] [] (10 ∷ text) text rows refl (rows-from st.StartRecord text rows are))

-- a row, and the ones after it
pub row-then : (s : State) (fields : List (List ℕ)) (field text : List ℕ) (row : Row) (state : State) (left : List ℕ) (rows : List Row)
    → next_record default_config s fields field text ≡ Some (row, state, left) → AreRecords default_config st.StartRecord left rows
    → RowsFrom s fields field text (row ∷ rows)
row-then s fields field text row state left rows e are =
    let (ends, less) = row-taken s fields field text (row, state, left) e in
    ((row, state, left), e, refl, rows-between state left rows ends are)

-- ---- the end of a text

-- the row that ends in it
pub row-of-last : (r : RowReader) (row : Row) (state : State) (text left rest : List ℕ) (rows : List Row)
    → ((more : List ℕ) → read_on r (text ++ more) ≡ Some (row, state, left ++ more))
    → (AreRecords default_config st.StartRecord rest rows → AreRecords default_config st.StartRecord left rows)
    → AreRecords default_config st.StartRecord rest rows → HasRowsAfter r text (row ∷ rows)
row-of-last r row state text left rest rows reads skips are =
    let e : read_on r text ≡ Some (row, state, left) =
    ap (read_on r) (sym (append-nil text)) ∙ reads [] ∙ (λ i. Some (row, state, append-nil left i)) in
    row-then (place_state r.place) (fields_of r.row) r.cell.items text row state left rows e (skips are)

last-read : (r m : RowReader) (text : List ℕ) → ((more : List ℕ) → read_on r (text ++ more) ≡ read_on m more) → read_on r text ≡ read_on m []
last-read r m text goes = ap (read_on r) (sym (append-nil text)) ∙ goes []

-- no row is left
pub none-of-last : (r m : RowReader) (text : List ℕ) → ((more : List ℕ) → read_on r (text ++ more) ≡ read_on m more)
    → ends_at_end (place_state m.place) ≡ false → HasRowsAfter r text []
unfolding next_record
none-of-last r m text goes between = last-read r m text goes ∙ rw between refl

-- the row that ends with it
pub row-at-end : (r m : RowReader) (text : List ℕ) (row : Row) (rows : List Row) → ((more : List ℕ) → read_on r (text ++ more) ≡ read_on m more)
    → ends_at_end (place_state m.place) ≡ true → row ≡ fields_of m.row ++ (m.cell.items ∷ []) → AreRecords default_config st.StartRecord [] rows
    → HasRowsAfter r text (row ∷ rows)
unfolding next_record
row-at-end r m text row rows goes ends is are =
    let whole : read_on m [] ≡ Some (row, st.StartRecord, []) = rw (ends, is) refl in
    row-then (place_state r.place) (fields_of r.row) r.cell.items text row st.StartRecord [] rows (last-read r m text goes ∙ whole) are

-- ---- what a reader reads that stood between two rows

pub begun-rows : (r : RowReader) (text : List ℕ) (rows : List Row) → IsBegun r → HasRowsAfter r text rows → AreRecords default_config st.StartRecord text rows
begun-rows r text rows begun has = records st.StartRecord text rows (rw (begun.place, begun.no_cells, begun.nothing) at has)

-- a row of the first of two texts
pub row-in-front : (r : RowReader) (front left back : List ℕ) (row : Row) (state : State) → IsBegun r
    → read_on r (front ++ back) ≡ Some (row, state, left ++ back) → HasRowBefore (front ++ back) row (left ++ back)
row-in-front r front left back row state begun reads more are =
    begun-rows r (front ++ back) (row ∷ more) begun
    (row-then (place_state r.place) _ r.cell.items (front ++ back) row state (left ++ back) more reads are)

-- rows of both
pub rows-of-both : (r m : RowReader) (front back : List ℕ) (rows : List Row) → IsBegun r → read_on r (front ++ back) ≡ read_on m back
    → HasRowsAfter m back rows → AreRecords default_config st.StartRecord (front ++ back) rows
rows-of-both r m front back rows begun goes has =
    begun-rows r (front ++ back) rows begun
    (moved (place_state r.place) (place_state m.place) _ _ r.cell.items m.cell.items (front ++ back) back rows goes has)

-- the first row of both
pub first-of-both : {X : Type 0} (left : X → List ℕ) (r m : RowReader) (front back : List ℕ) (row : Row) (found : Option X) → IsBegun r
    → read_on r (front ++ back) ≡ read_on m back
    → MatchOption found (HasRowsAfter m back [])
    (λ p. (more : List Row) → AreRecords default_config st.StartRecord (left p) more → HasRowsAfter m back (row ∷ more))
    → MatchOption found (AreRecords default_config st.StartRecord (front ++ back) []) (λ p. HasRowBefore (front ++ back) row (left p))
first-of-both left r m front back row None begun goes h = rows-of-both r m front back [] begun goes h
first-of-both left r m front back row (Some p) begun goes h = λ more are. rows-of-both r m front back (row ∷ more) begun goes (h more are)
