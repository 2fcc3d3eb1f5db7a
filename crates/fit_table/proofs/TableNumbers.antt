-- The cells of numbers in a row of the table.
use Rattle.fit_table.proofs.Common.{◌≡◌, ◌∙◌, ◌++◌, ◌∷◌, [], true, false, inl, inr, Bool, refl, sym, ap, append_assoc, cases_Bool, fixed_text, fields_one, High}
use Rattle.fit_table.proofs.Common.{high-fixed, unquoted, AddsCell, PutsCell, MessageDef, Values, FieldDef, Items, Global, first_field, first_number}
use Rattle.fit_table.proofs.Common.{known_number, amount_text, value_text, degrees_text}
use Rattle.std.proofs.Common.{ℕ, List, Option, Some, None, ◌==◌}
use Rattle.std.proofs.lemmas.List.{append-nil}
use Rattle.std.specs.Prelude.{option_map, unwrap_or, pos, ℤ}
use Rattle.fit_record.specs.Faults.{or_else}
use Rattle.fit_profile.specs.Profile.{Meaning}
use Rattle.fit_cells.specs.Rows.{Cell}
use Rattle.fit_table.specs.Degrees.{degrees_of}
use Rattle.fit_table.specs.inner.TableColumns.{degrees_of_first}

-- ---- whether a cell was put

pub puts_none : (cell : Option Cell) (text : List ℕ) → cell ≡ None → PutsCell cell false text text
puts_none cell text none = rw none (refl, sym (append-nil text))

pub puts_some : (cell : Option Cell) (put : Cell) (old new : List ℕ) → cell ≡ Some put → new ≡ old ++ put → PutsCell cell true old new
puts_some cell put old new some is = rw some (refl, is)

-- the first of two cells, and else the other
pub first_put : (a b : Option Cell) (put : Bool) (old new : List ℕ) → PutsCell a put old new → put ≡ true → new ≡ old ++ unwrap_or (or_else a b) []
first_put (Some cell) b put old new puts is = puts.1
first_put None b put old new puts is = cc (sym puts.0 ∙ is)

pub other_put : (a b : Option Cell) (put : Bool) (old between new : List ℕ) → PutsCell a put old between → put ≡ false → new ≡ between ++ unwrap_or b []
    → new ≡ old ++ unwrap_or (or_else a b) []
other_put None b put old between new puts is more = more ∙ ap (λ t. t ++ unwrap_or b []) (puts.1 ∙ append-nil old)
other_put (Some cell) b put old between new puts is more = cc (sym puts.0 ∙ is)

-- ---- no cell of a number needs quotes

abbrev pub IsHigh : Option Cell → Type 0
IsHigh cell = High (unwrap_or cell [])

high_some : {X : Type 0} (text : X → List ℕ) → ((x : X) → High (text x)) → (o : Option X) → IsHigh (option_map text o)
high_some text high None = tt
high_some text high (Some x) = high x

pub high_value : (d : MessageDef Global) (v : Values Global) (number : ℕ) → IsHigh (value_text d v number)
high_value d v number = high_some (λ (x : ℤ × Meaning). amount_text x.0 x.1.scale x.1.offset) (λ x. high-fixed _ _) (known_number d v number)

pub high_told : (scale : ℕ) (told : Option ℕ) → IsHigh (option_map (λ (n : ℕ). amount_text (pos n) scale 0) told)
high_told scale told = high_some (λ (n : ℕ). amount_text (pos n) scale 0) (λ n. high-fixed _ _) told

of_first : (first : Option (FieldDef × Items Global)) → IsHigh (degrees_of_first first)
of_first None = tt
of_first (Some g) = elim (cases_Bool (g.0.code == 0x85)) [
  | inl is ↦ rw is (high_some (λ (s : ℤ). fixed_text (degrees_of s) 7) (λ (s : ℤ). high-fixed (degrees_of s) 7) (first_number g.0 g.1))
  | inr other ↦ rw other tt
]

pub high_degrees : (d : MessageDef Global) (v : Values Global) (number : ℕ) → IsHigh (degrees_text d v number)
high_degrees d v number = of_first (first_field d.fields v.fields number)

pub high_else : (a b : Option Cell) → IsHigh a → IsHigh b → IsHigh (or_else a b)
high_else None b p q = q
high_else (Some cell) b p q = p

-- ---- cells of a row

-- the cell of a number, put after a comma
pub added : (cell : Option Cell) (old beyond new : List ℕ) → IsHigh cell → beyond ≡ old ++ (44 ∷ []) → new ≡ beyond ++ unwrap_or cell [] → AddsCell cell old new
added cell old beyond new high comma put =
    put ∙ ap (λ (t : List ℕ). t ++ unwrap_or cell []) comma ∙ append_assoc old (44 ∷ []) (unwrap_or cell [])
    ∙ ap (λ (t : List ℕ). old ++ (44 ∷ t)) (sym (unquoted (unwrap_or cell []) high))
    ∙ ap (λ (t : List ℕ). old ++ t) (sym (fields_one (unwrap_or cell [])))
