-- Where fields stand by their numbers. No public contract names these definitions.
use Rattle.std.specs.Prelude.{◌≡◌, ◌<◌, ℕ, ◌==◌, ◌+◌, if◌then◌else◌, List, [], ◌∷◌, slice_index_or, slice_get, Option, option_and_then, option_map}
use Rattle.fit_base.specs.declared.items.Items.{Items}
use Rattle.fit_record.specs.declared.definition.FieldDef.{FieldDef}

-- The place of the first field of this number, and one more, where the first field stands at `from`; 0 where there is none.
abbrev pub place_from : ℕ → List FieldDef → ℕ → ℕ
place_from from [] number = 0
place_from from (f ∷ fields) number = if f.number == number then from + 1 else place_from (from + 1) fields number

-- These are the places of the first fields of all numbers.
abbrev pub AreFieldPlaces : List ℕ → List FieldDef → Type 0
AreFieldPlaces places fields = (number : ℕ) → number < 256 → slice_index_or places number 0 ≡ place_from 0 fields number

-- the field and the items at a place
abbrev pub both_at : {A : Type 0} → List FieldDef → List (Items A) → ℕ → Option (FieldDef × Items A)
both_at {A = A} fields items place =
    option_and_then (λ f. option_map {U = FieldDef × Items A} (λ i. (f, i)) (slice_get items place)) (slice_get fields place)
