-- The texts of amounts, by the scale of the profile.
use Rattle.fit_table.proofs.Common.{◌≡◌, refl, ap, ap₂, option_and_then, Fixed, fixed_text, Meaning, IsScale, IsValueOf, amount_text, shown_text}
use Rattle.std.proofs.Common.{ℕ, Option, Some, None}
use Rattle.std.specs.Prelude.{option_map, ℤ, pos}
use Rattle.fit_profile.specs.Values.{IsAmount}
use Rattle.fit_cells.proofs.NumberFacts.{is_scaled}

-- the text of a value
pub value_shown : (raw : Option ℤ) (meaning : Option Meaning) (value : Option Fixed) → ((m : Meaning) → meaning ≡ Some m → IsScale m.scale)
    → IsValueOf (option_and_then (λ r. option_map (λ m. (r, m)) meaning) raw) value
    → shown_text value ≡ option_map (λ (x : ℤ × Meaning). amount_text x.0 x.1.scale x.1.offset) (option_and_then (λ r. option_map (λ m. (r, m)) meaning) raw)
value_shown None meaning None scale is = refl
value_shown None meaning (Some v) scale is = absurd is
value_shown (Some r) None None scale is = refl
value_shown (Some r) None (Some v) scale is = absurd is
value_shown (Some r) (Some m) None scale is = absurd is
value_shown (Some r) (Some m) (Some v) scale is =
    ap Some (ap₂ fixed_text (is_scaled r v.value m.scale m.offset (scale m refl) is.1) is.0)

-- the text of a number of units
pub amount_shown : (scale : ℕ) (n : Option ℕ) (value : Option Fixed) → IsScale scale → IsAmount scale n value
    → shown_text value ≡ option_map (λ (n : ℕ). amount_text (pos n) scale 0) n
amount_shown scale None None known is = refl
amount_shown scale None (Some v) known is = absurd is
amount_shown scale (Some n) None known is = absurd is
amount_shown scale (Some n) (Some v) known is = ap Some (ap₂ fixed_text (is_scaled (pos n) v.value scale 0 known is.1) is.0)
