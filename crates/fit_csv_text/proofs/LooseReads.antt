-- Reads of a text that was spelled anew, and of the one that it was made from.
use Rattle.std.proofs.Common.{◌≡◌, ◌∙◌, ◌++◌, not, ◌∷◌, ◌==◌, ◌||◌, [], ℕ, List, Bool, Some, refl, sym, ap, subst, true, false, append_assoc, inl, inr}
use Rattle.std.proofs.lemmas.List.{append-nil}
use Rattle.std.proofs.lemmas.Bool.{cases_Bool, eqb-true}
use Rattle.std.proofs.lemmas.Option.{same_Some}
use Rattle.csv.specs.Machine.{Read, next_record, step, ends_at_end}
use Rattle.csv.specs.Reading.{AreRecords, Reached, default_config}
use Rattle.csv.specs.declared.parser.Action.{Action}
use Rattle.csv.specs.declared.parser.Action.TheVariants as act
use Rattle.csv.specs.declared.parser.State.{State}
use Rattle.csv.specs.declared.parser.State.TheVariants as st
use Rattle.fit_cells.specs.Rows.{Row}
use Rattle.fit_csv_text.specs.declared.loose.Spot.{Spot}
use Rattle.fit_csv_text.specs.declared.loose.Spot.TheVariants.{RowStart, CellStart, InCell}
use Rattle.fit_csv_text.specs.inner.Loose.{Closes, EndsCell, EndsLine, HasRowsOf, NoneOf, Opens, RowsFrom, is_mark, is_special}
use Rattle.fit_csv_text.specs.inner.Loose.{may_open, spot_after, spot_from, spot_state}

-- ---- reads and the rows that they give

-- two reads that go on alike
pub moved : (s n : State) (fields f2 : List (List ℕ)) (field fd2 t u : List ℕ) (rows : List Row)
    → next_record default_config s fields field t ≡ next_record default_config n f2 fd2 u
    → RowsFrom n f2 fd2 u rows → RowsFrom s fields field t rows
moved s n fields f2 field fd2 t u [] e h = e ∙ h
moved s n fields f2 field fd2 t u (r ∷ rows) e h = (h.0, e ∙ h.1, h.2, h.3)

-- two reads that end the same record
ended : (s s2 n n2 : State) (fields f2 f : List (List ℕ)) (field fd2 t p u v : List ℕ) (rows : List Row)
    → next_record default_config s fields field t ≡ Some (f, n, u)
    → next_record default_config s2 f2 fd2 p ≡ Some (f, n2, v)
    → ((more : List Row) → AreRecords default_config n2 v more → AreRecords default_config n u more)
    → RowsFrom s2 f2 fd2 p rows → RowsFrom s fields field t rows
ended s s2 n n2 fields f2 f field fd2 t p u v [] e e2 more h = cc (sym e2 ∙ h)
ended s s2 n n2 fields f2 f field fd2 t p u v (r ∷ rows) e e2 more h =
    let this : Read = (f, n2, v) in
    let same : h.0 ≡ this = same_Some h.0 this (sym h.1 ∙ e2) in
    ((f, n, u), e, h.2 ∙ ap (λ (q : Read). q.0) same, more rows (subst (λ (q : Read). AreRecords default_config q.1 q.2 rows) same h.3))

-- between two rows
pub rows-from : (s : State) (t : List ℕ) (rows : List Row) → AreRecords default_config s t rows → RowsFrom s [] [] t rows
unfolding Reached
rows-from s t [] (s2, ys, (same, text), none) = rw (same, text) none
rows-from s t (r ∷ rows) (s2, ys, (p, e, is, reached), none) = (p, e, is, (s2, ys, reached, none))

pub records : (s : State) (t : List ℕ) (rows : List Row) → RowsFrom s [] [] t rows → AreRecords default_config s t rows
unfolding Reached
records s t [] none = (s, t, (refl, refl), none)
records s t (r ∷ rows) (p, e, is, (s2, ys, reached, none)) = (s2, ys, (p, e, is, reached), none)

pub same-records : (s s2 : State) (t p : List ℕ) → HasRowsOf s t s2 p → (rows : List Row)
    → AreRecords default_config s2 p rows → AreRecords default_config s t rows
same-records s s2 t p h rows is = records s t rows (h.rows_of [] [] rows (rows-from s2 p rows is))

-- ---- bytes that both texts have

-- the same byte does the same in two states
same-byte : (s s2 n : State) (a : Action) (c : ℕ) (t p : List ℕ) → step default_config s c ≡ (n, a) → step default_config s2 c ≡ (n, a)
    → HasRowsOf n t n p → HasRowsOf s (c ∷ t) s2 (c ∷ p)
unfolding next_record
same-byte s s2 n act.EndRecord c t p e e2 h = record {
  rows_of = λ fields field rows. ended s s2 n n fields fields (fields ++ (field ∷ [])) field field (c ∷ t) (c ∷ p) t p rows (rw e refl) (rw e2 refl)
      (same-records n n t p h);
}
same-byte s s2 n act.EndField c t p e e2 h = record {
  rows_of = λ fields field rows is. moved s n fields (fields ++ (field ∷ [])) field [] (c ∷ t) t rows (rw e refl)
      (h.rows_of (fields ++ (field ∷ [])) [] rows (moved n s2 (fields ++ (field ∷ [])) fields [] field p (c ∷ p) rows (rw e2 refl) is));
}
same-byte s s2 n act.Copy c t p e e2 h = record {
  rows_of = λ fields field rows is. moved s n fields fields field (field ++ (c ∷ [])) (c ∷ t) t rows (rw e refl)
      (h.rows_of fields (field ++ (c ∷ [])) rows (moved n s2 fields fields (field ++ (c ∷ [])) field p (c ∷ p) rows (rw e2 refl) is));
}
same-byte s s2 n act.Skip c t p e e2 h = record {
  rows_of = λ fields field rows is. moved s n fields fields field field (c ∷ t) t rows (rw e refl)
      (h.rows_of fields field rows (moved n s2 fields fields field field p (c ∷ p) rows (rw e2 refl) is));
}

-- a byte that is copied
copied : (s n : State) (c : ℕ) (t p : List ℕ) → (step default_config s c).0 ≡ n → HasRowsOf n t n p → HasRowsOf s (c ∷ t) s (c ∷ p)
copied s n c t p e h =
    let a = (step default_config s c).1 in
    let is : step default_config s c ≡ (n, a) = ap (λ (m : State). let q : State × Action = (m, a) in q) e in
    same-byte s s n a c t p is is h

or-left : (a b : Bool) → (a || b) ≡ false → a ≡ false
or-left false b e = refl
or-left true b e = cc e

or-right : (a b : Bool) → (a || b) ≡ false → b ≡ false
or-right false b e = e
or-right true b e = cc e

-- a byte that is no mark leads from spot to spot
byte-state : (spot : Spot) (c : ℕ) → is_mark c ≡ false → (step default_config (spot_state spot) c).0 ≡ spot_state (spot_after c)
byte-state spot c plain =
    let quote = or-left (c == 34) (c == 13) plain in
    let return = or-right (c == 34) (c == 13) plain in
    at spot quote return
  where
    at : (spot : Spot) → (c == 34) ≡ false → (c == 13) ≡ false → (step default_config (spot_state spot) c).0 ≡ spot_state (spot_after c)
    at RowStart quote return = elim (cases_Bool (c == 44)) [
      | inl comma ↦ rw (eqb-true c 44 comma) refl
      | inr other ↦ elim (cases_Bool (c == 10)) [
        | inl line ↦ rw (eqb-true c 10 line) refl
        | inr plain ↦ rw (quote, return, other, plain) refl
      ]
    ]
    at CellStart quote return = elim (cases_Bool (c == 44)) [
      | inl comma ↦ rw (eqb-true c 44 comma) refl
      | inr other ↦ elim (cases_Bool (c == 10)) [
        | inl line ↦ rw (eqb-true c 10 line) refl
        | inr plain ↦ rw (quote, return, other, plain) refl
      ]
    ]
    at InCell quote return = elim (cases_Bool (c == 44)) [
      | inl comma ↦ rw (eqb-true c 44 comma) refl
      | inr other ↦ elim (cases_Bool (c == 10)) [
        | inl line ↦ rw (eqb-true c 10 line) refl
        | inr plain ↦ rw (return, other, plain) refl
      ]
    ]

-- a run of such bytes
pub run-copied : (spot : Spot) (x t p : List ℕ) → NoneOf is_mark x → HasRowsOf (spot_state (spot_from spot x)) t (spot_state (spot_from spot x)) p
    → HasRowsOf (spot_state spot) (x ++ t) (spot_state spot) (x ++ p)
unfolding NoneOf spot_from
run-copied spot [] t p plain h = h
run-copied spot (c ∷ x) t p plain h =
    copied (spot_state spot) (spot_state (spot_after c)) c (x ++ t) (x ++ p) (byte-state spot c plain.0) (run-copied (spot_after c) x t p plain.1 h)

-- ---- ends of rows

-- a state in which the end of a row ends the record
abbrev EndsHere : State → Type 0
EndsHere s = (step default_config s 10 ≡ (st.StartRecord, act.EndRecord)) × (step default_config s 13 ≡ (st.AfterCr, act.EndRecord)) × (ends_at_end s ≡ true)

after-return : (u p : List ℕ) → HasRowsOf st.StartRecord u st.StartRecord p → (rows : List Row) → AreRecords default_config st.StartRecord p rows
    → AreRecords default_config st.AfterCr (10 ∷ u) rows
unfolding next_record
after-return u p h rows is =
    records st.AfterCr (10 ∷ u) rows
    (moved st.AfterCr st.StartRecord [] [] [] [] (10 ∷ u) u rows refl (h.rows_of [] [] rows (rows-from st.StartRecord p rows is)))

pub row-end : (s s2 : State) (t u p : List ℕ) → EndsHere s → step default_config s2 10 ≡ (st.StartRecord, act.EndRecord) → EndsLine t u
    → HasRowsOf st.StartRecord u st.StartRecord p → HasRowsOf s t s2 (10 ∷ p)
unfolding next_record
row-end s s2 t u p here e2 (inl is) h =
    subst (λ (x : List ℕ). HasRowsOf s x s2 (10 ∷ p)) (sym is) (same-byte s s2 st.StartRecord act.EndRecord 10 u p here.0 e2 h)
row-end s s2 t u p here e2 (inr (inl is)) h = subst (λ (x : List ℕ). HasRowsOf s x s2 (10 ∷ p)) (sym is) (record {
  rows_of = λ fields field rows. ended s s2 st.AfterCr st.StartRecord fields fields (fields ++ (field ∷ [])) field field (13 ∷ 10 ∷ u) (10 ∷ p) (10 ∷ u) p rows
      (rw here.1 refl) (rw e2 refl) (after-return u p h);
})
row-end s s2 t u p here e2 (inr (inr (none, left))) h = subst (λ (x : List ℕ). HasRowsOf s x s2 (10 ∷ p)) (sym none) (record {
  rows_of = λ fields field rows. ended s s2 st.StartRecord st.StartRecord fields fields (fields ++ (field ∷ [])) field field [] (10 ∷ p) [] p rows
      (rw here.2 refl) (rw e2 refl)
      (same-records st.StartRecord st.StartRecord [] p (subst (λ (x : List ℕ). HasRowsOf st.StartRecord x st.StartRecord p) left h));
})

-- a line feed for a carriage return and a line feed
pub return-dropped : (spot : Spot) (u p : List ℕ) → HasRowsOf st.StartRecord u st.StartRecord p
    → HasRowsOf (spot_state spot) (13 ∷ 10 ∷ u) (spot_state spot) (10 ∷ p)
unfolding next_record
return-dropped RowStart u p h = record {
  rows_of = λ fields field rows is. moved st.StartRecord st.StartRecord fields fields field field (13 ∷ 10 ∷ u) u rows refl
      (h.rows_of fields field rows (moved st.StartRecord st.StartRecord fields fields field field p (10 ∷ p) rows refl is));
}
return-dropped CellStart u p h = row-end st.StartField st.StartField (13 ∷ 10 ∷ u) u p (refl, refl, refl) refl (inr (inl refl)) h
return-dropped InCell u p h = row-end st.InField st.InField (13 ∷ 10 ∷ u) u p (refl, refl, refl) refl (inr (inl refl)) h

-- what comes after a closing quote
pub cell-end : (spot : Spot) (s2 : State) (t left spelled p : List ℕ) → step default_config s2 44 ≡ (st.StartField, act.EndField)
    → step default_config s2 10 ≡ (st.StartRecord, act.EndRecord) → EndsCell t left spelled
    → HasRowsOf (spot_state (spot_from spot spelled)) left (spot_state (spot_from spot spelled)) p → HasRowsOf st.AfterQuote t s2 (spelled ++ p)
unfolding spot_from
cell-end spot s2 t left spelled p comma line (inl (is, spelled_is)) h =
    let after : HasRowsOf st.StartField left st.StartField p =
    subst (λ (x : List ℕ). HasRowsOf (spot_state (spot_from spot x)) left (spot_state (spot_from spot x)) p) spelled_is h in
    subst (λ (x : List ℕ). HasRowsOf st.AfterQuote t s2 (x ++ p)) (sym spelled_is)
    (subst (λ (x : List ℕ). HasRowsOf st.AfterQuote x s2 (44 ∷ p)) (sym is)
    (same-byte st.AfterQuote s2 st.StartField act.EndField 44 left p refl comma after))
cell-end spot s2 t left spelled p comma line (inr (is, spelled_is)) h =
    let after : HasRowsOf st.StartRecord left st.StartRecord p =
    subst (λ (x : List ℕ). HasRowsOf (spot_state (spot_from spot x)) left (spot_state (spot_from spot x)) p) spelled_is h in
    subst (λ (x : List ℕ). HasRowsOf st.AfterQuote t s2 (x ++ p)) (sym spelled_is)
    (row-end st.AfterQuote s2 t left p (refl, refl, refl) line is after)

-- ---- quotes

not-special : (c : ℕ) → is_special c ≡ false → ((c == 44) ≡ false) × ((c == 34) ≡ false) × ((c == 13) ≡ false) × ((c == 10) ≡ false)
not-special c plain =
    let three = or-left ((c == 44) || (c == 34) || (c == 13)) (c == 10) plain in
    let two = or-left ((c == 44) || (c == 34)) (c == 13) three in (
      or-left (c == 44) (c == 34) two,
      or-right (c == 44) (c == 34) two,
      or-right ((c == 44) || (c == 34)) (c == 13) three,
      or-right ((c == 44) || (c == 34) || (c == 13)) (c == 10) plain,
    )

quoted-run : (fields : List (List ℕ)) (field x tail : List ℕ) → NoneOf is_special x
    → next_record default_config st.InQuoted fields field (x ++ (34 ∷ tail)) ≡ next_record default_config st.AfterQuote fields (field ++ x) tail
unfolding next_record NoneOf
quoted-run fields field [] tail plain = rw (append-nil field) refl
quoted-run fields field (c ∷ x) tail plain =
    let is = not-special c plain.0 in
    rw is.1 (quoted-run fields (field ++ (c ∷ [])) x tail plain.1
    ∙ ap (λ (f : List ℕ). next_record default_config st.AfterQuote fields f tail) (append_assoc field (c ∷ []) x))

bare-run : (fields : List (List ℕ)) (field x tail : List ℕ) → NoneOf is_special x
    → next_record default_config st.InField fields field (x ++ tail) ≡ next_record default_config st.InField fields (field ++ x) tail
unfolding next_record NoneOf
bare-run fields field [] tail plain = rw (append-nil field) refl
bare-run fields field (c ∷ x) tail plain =
    let is = not-special c plain.0 in
    rw (is.0, is.2, is.3) (bare-run fields (field ++ (c ∷ [])) x tail plain.1
    ∙ ap (λ (f : List ℕ). next_record default_config st.InField fields f tail) (append_assoc field (c ∷ []) x))

-- a cell that begins with no special byte
bare-start : (spot : Spot) (fields : List (List ℕ)) (field : List ℕ) (c : ℕ) (tail : List ℕ) → is_special c ≡ false
    → next_record default_config (spot_state spot) fields field (c ∷ tail) ≡ next_record default_config st.InField fields field (c ∷ tail)
unfolding next_record
bare-start RowStart fields field c tail plain = let is = not-special c plain in rw (is.1, is.2, is.3) refl
bare-start CellStart fields field c tail plain = let is = not-special c plain in rw is.1 refl
bare-start InCell fields field c tail plain = refl

quote-opens : (spot : Spot) (fields : List (List ℕ)) (field tail : List ℕ) → may_open spot ≡ true
    → next_record default_config (spot_state spot) fields field (34 ∷ tail) ≡ next_record default_config st.InQuoted fields field tail
unfolding next_record
quote-opens RowStart fields field tail may = refl
quote-opens CellStart fields field tail may = refl
quote-opens InCell fields field tail may = cc may

-- quotes that a cell does without
pub dropped : (spot : Spot) (x t p : List ℕ) → Opens spot x → NoneOf is_special x
    → ((s2 : State) → step default_config s2 44 ≡ (st.StartField, act.EndField) → step default_config s2 10 ≡ (st.StartRecord, act.EndRecord)
    → HasRowsOf st.AfterQuote t s2 p)
    → HasRowsOf (spot_state spot) (34 ∷ (x ++ (34 ∷ t))) (spot_state spot) (x ++ p)
unfolding NoneOf next_record
dropped RowStart [] t p opens plain h = absurd opens
dropped CellStart [] t p opens plain h = record {
  rows_of = λ fields field rows is. moved st.StartField st.AfterQuote fields fields field field (34 ∷ 34 ∷ t) t rows refl
      ((h st.StartField refl refl).rows_of fields field rows is);
}
dropped InCell [] t p opens plain h = absurd opens
dropped spot (c ∷ x) t p opens plain h =
    let may : may_open spot ≡ true = opened spot c x opens in record {
      rows_of = λ fields field rows is. moved (spot_state spot) st.AfterQuote fields fields field (field ++ (c ∷ x)) (34 ∷ ((c ∷ x) ++ (34 ∷ t))) t rows
          (quote-opens spot fields field ((c ∷ x) ++ (34 ∷ t)) may ∙ quoted-run fields field (c ∷ x) t plain)
          ((h st.InField refl refl).rows_of fields (field ++ (c ∷ x)) rows
          (moved st.InField (spot_state spot) fields fields (field ++ (c ∷ x)) field p ((c ∷ x) ++ p) rows
          (sym (bare-start spot fields field c (x ++ p) plain.0 ∙ bare-run fields field (c ∷ x) p plain)) is));
    }
  where
    opened : (spot : Spot) (c : ℕ) (x : List ℕ) → Opens spot (c ∷ x) → may_open spot ≡ true
    opened RowStart c x opens = refl
    opened CellStart c x opens = refl
    opened InCell c x opens = absurd opens

abbrev quoted_state : Bool → State
quoted_state true = st.InQuoted
quoted_state false = st.AfterQuote

quoted-byte : (c : ℕ) → (step default_config st.InQuoted c).0 ≡ quoted_state (not (c == 34))
quoted-byte c = elim (cases_Bool (c == 34)) [ inl quote ↦ rw quote refl | inr other ↦ rw other refl ]

-- a cell that keeps its quotes
kept-run : (is_open : Bool) (x t p : List ℕ) → Closes is_open x → HasRowsOf st.AfterQuote t st.AfterQuote p
    → HasRowsOf (quoted_state is_open) (x ++ t) (quoted_state is_open) (x ++ p)
unfolding Closes
kept-run true [] t p closes h = absurd closes
kept-run false [] t p closes h = h
kept-run true (c ∷ x) t p closes h =
    copied st.InQuoted (quoted_state (not (c == 34))) c (x ++ t) (x ++ p) (quoted-byte c) (kept-run (not (c == 34)) x t p closes h)
kept-run false (c ∷ x) t p closes h =
    copied st.AfterQuote st.InQuoted c (x ++ t) (x ++ p) (rw closes.0 refl) (kept-run true x t p closes.1 h)

pub kept : (spot : Spot) (x t p : List ℕ) → may_open spot ≡ true → Closes true x → HasRowsOf st.AfterQuote t st.AfterQuote p
    → HasRowsOf (spot_state spot) (34 ∷ (x ++ t)) (spot_state spot) (34 ∷ (x ++ p))
kept RowStart x t p may closes h = copied st.StartRecord st.InQuoted 34 (x ++ t) (x ++ p) refl (kept-run true x t p closes h)
kept CellStart x t p may closes h = copied st.StartField st.InQuoted 34 (x ++ t) (x ++ p) refl (kept-run true x t p closes h)
kept InCell x t p may closes h = cc may
