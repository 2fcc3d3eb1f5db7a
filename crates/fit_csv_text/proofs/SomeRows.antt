-- Each text has rows.
use Rattle.std.proofs.Common.{◌≡◌, ◌≤◌, [], ◌∷◌, ℕ, List, Option, Some, None, length, zero, suc, refl, subst, inl, inr, arith}
use Rattle.std.proofs.lemmas.Bool.{cases_Bool}
use Rattle.std.proofs.lemmas.Option.{same_Some}
use Rattle.csv.specs.Machine.{Read, field_after, fields_after, is_end, next_record, step}
use Rattle.csv.specs.Reading.{AreRecords, Reached, default_config}
use Rattle.csv.specs.declared.parser.State.TheVariants as st
use Rattle.fit_cells.specs.Rows.{Row}
use Rattle.fit_csv_text.proofs.LooseReads.{records}
use Rattle.fit_csv_text.proofs.RowReads.{row-taken, row-then}

abbrev pub HasRows : List ℕ → Type 0
HasRows text = (rows : List Row) × AreRecords default_config st.StartRecord text rows

less-left : (c : ℕ) (rest : List ℕ) (p : Read) → next_record default_config st.StartRecord [] [] (c ∷ rest) ≡ Some p → length p.2 ≤ length rest
unfolding next_record
less-left c rest p e = elim (cases_Bool (is_end (step default_config st.StartRecord c).1)) [
  | inl end ↦ subst (λ (q : Read). length q.2 ≤ length rest) (same_Some _ p (rw end at e)) (omega arith)
  | inr goes ↦ (row-taken (step default_config st.StartRecord c).0 (fields_after (step default_config st.StartRecord c).1 [] [])
      (field_after (step default_config st.StartRecord c).1 c []) rest p (rw goes at e)).1
]

rows-then : (n c : ℕ) (rest : List ℕ) → length rest ≤ n → ((text : List ℕ) → length text ≤ n → HasRows text) → (o : Option Read)
    → next_record default_config st.StartRecord [] [] (c ∷ rest) ≡ o → HasRows (c ∷ rest)
unfolding Reached
rows-then n c rest few shorter None e = ([], (st.StartRecord, c ∷ rest, (refl, refl), e))
rows-then n c rest few shorter (Some p) e =
    let (rows, are) = shorter p.2 (omega (arith, less-left c rest p e, few)) in
    (p.0 ∷ rows, records st.StartRecord (c ∷ rest) (p.0 ∷ rows) (row-then st.StartRecord [] [] (c ∷ rest) p.0 p.1 p.2 rows e are))

rows-up-to : (n : ℕ) (text : List ℕ) → length text ≤ n → HasRows text
unfolding Reached next_record
rows-up-to n [] few = ([], (st.StartRecord, [], (refl, refl), refl))
rows-up-to zero (c ∷ rest) few = absurd (omega arith)
rows-up-to (suc n) (c ∷ rest) few =
    rows-then n c rest (omega arith) (rows-up-to n) (next_record default_config st.StartRecord [] [] (c ∷ rest)) refl

pub some-rows : (text : List ℕ) → HasRows text
some-rows text = rows-up-to (length text) text (omega arith)
