-- Items by the form of their field.
use Rattle.fit_cells.proofs.Common.{◌≡◌, ◌∙◌, ◌^◌, ℕ, ℤ, pos, ◌-ℤ◌, ◌*ℤ◌, sym, false, inl, inr, cases_Bool, ne_eqb, Signed, Unsigned, base_type}
use Rattle.fit_cells.proofs.Common.{twos_complement, fixed_text, Meaning, NumberForm, item_text, IsFormOf, arith, ints, w64, FitsSigned, neg_ℤ, ◌≤ℤ◌}
use Rattle.fit_numbers.specs.Scaled.{IsFactor}
use Rattle.std.proofs.Common.{Option, ◌==◌}
use Rattle.std.specs.Prelude.{if◌then◌else◌}

pub formed_item : (f : NumberForm) (code : ℕ) (info : Option Meaning) (bits : ℕ) (number : ℤ) → IsFormOf code info f → (bits ≡ f.invalid → ⊥)
    → number ≡ (if f.signed then twos_complement f.width bits else pos bits) -ℤ pos f.shift
    → fixed_text (number *ℤ pos f.factor) f.decimals ≡ item_text (base_type code).class code info f.width bits
formed_item f code info bits number form other is =
    let valid : (bits == (base_type code).invalid) ≡ false = ne_eqb bits (base_type code).invalid (λ e. other (e ∙ sym form.invalid)) in
    elim (cases_Bool f.signed) [
      | inl signed ↦
          let raw : number ≡ twos_complement f.width bits -ℤ pos f.shift = rw signed at is in
          let class : (base_type code).class ≡ Signed = rw signed at form.class in
          rw (class, valid, raw) (sym (form.text (twos_complement f.width bits)))
      | inr plain ↦
          let raw : number ≡ pos bits -ℤ pos f.shift = rw plain at is in
          let class : (base_type code).class ≡ Unsigned = rw plain at form.class in
          rw (class, valid, raw) (sym (form.text (pos bits)))
    ]

-- A number of few bits times a factor has 64 bits at most.
pub product_fits : (z : ℤ) (f : ℕ) → neg_ℤ (pos (2 ^ 43)) ≤ℤ z → z ≤ℤ pos (2 ^ 43) → IsFactor f → FitsSigned w64 (z *ℤ pos f)
product_fits z f low high (inl one) = rw one (omega (arith, ints, low, high))
product_fits z f low high (inr (inl two)) = rw two (omega (arith, ints, low, high))
product_fits z f low high (inr (inr (inl middle))) = rw middle (omega (arith, ints, low, high))
product_fits z f low high (inr (inr (inr most))) = rw most (omega (arith, ints, low, high))
