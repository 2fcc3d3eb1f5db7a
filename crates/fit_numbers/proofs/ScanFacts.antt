-- What a printed text reads as.
use Rattle.fit_numbers.proofs.Common.{◌≡◌, ◌∙◌, ◌++◌, ◌∷◌, [], ◌/◌, ◌%◌, ◌^◌, ◌<◌, ◌≤◌, ℕ, ℤ, pos, negsuc, unsigned_abs, decimal, List, false, refl, ap, ap₂}
use Rattle.fit_numbers.proofs.Common.{arith, sym, length, subst, div-le_self, ne_eqb, ints, decimal_is_IsNumeral_wide, starts_with_minus, AllDigits}
use Rattle.fit_numbers.proofs.Common.{digit_value, fixed_text, fraction, IsIn128, digits_in, signed_value}
use Rattle.fit_numbers.proofs.DigitFacts.{digits_in-text}

minus-digit : digit_value 45 < 10 → ⊥
minus-digit h = absurd (omega (arith, h))

first-digit : (ds rest : List ℕ) → 0 < length ds → AllDigits 10 ds → starts_with_minus (ds ++ rest) ≡ false
first-digit [] rest h all = absurd (omega (arith, h))
first-digit (c ∷ cs) rest h all = ne_eqb c 45 (λ e. minus-digit (subst (λ x. digit_value x < 10) e all.0))

pub size-in : (v : ℤ) → IsIn128 v → unsigned_abs v ≤ 2 ^ 127
size-in (pos n) h = omega (arith, ints, h.1)
size-in (negsuc n) h = omega (arith, ints, h.0)

pub size-of-text : (v : ℤ) (d : ℕ) → IsIn128 v → digits_in 0 (fixed_text v d) ≡ unsigned_abs v
size-of-text v d h = digits_in-text v d (omega (arith, size-in v h))

pub value-of-text : (v : ℤ) (d : ℕ) → IsIn128 v → signed_value (starts_with_minus (fixed_text v d)) (unsigned_abs v) ≡ v
value-of-text (pos n) d h =
    let small = size-in (pos n) h in
    let numeral = decimal_is_IsNumeral_wide (n / 10 ^ d) (omega (arith, small, div-le_self n (10 ^ d))) in
    ap (λ b. signed_value b n) (first-digit (decimal (n / 10 ^ d)) (fraction d (n % 10 ^ d)) numeral.0.0 numeral.0.1)
value-of-text (negsuc n) d h = refl

-- a text that is printed reads as its number
pub text-value : (text : List ℕ) (v : ℤ) (d : ℕ) → IsIn128 v → text ≡ fixed_text v d → signed_value (starts_with_minus text) (digits_in 0 text) ≡ v
text-value text v d h e =
    ap₂ signed_value (ap starts_with_minus e) (ap (digits_in 0) e ∙ size-of-text v d h) ∙ value-of-text v d h

-- a text is that of one number at most
pub one_number : (v w : ℤ) (d : ℕ) → IsIn128 v → IsIn128 w → fixed_text v d ≡ fixed_text w d → v ≡ w
one_number v w d in_v in_w e = sym (text-value (fixed_text v d) v d in_v refl) ∙ text-value (fixed_text v d) w d in_w e
