-- Bits stand for one number of two's complement.
use Rattle.fit_base.proofs.Common.{◌≡◌, ℕ, ◌*◌, ◌^◌, ◌<◌, ◌⊎◌, inl, inr, Bool, true, false, cond, refl, arith, ltb-false, nat_lt, ℤ, pos, neg_ℤ, ◌+ℤ◌, ◌-ℤ◌}
use Rattle.fit_base.proofs.Common.{◌≤ℤ◌, ◌<ℤ◌, SignedNumbers}
use Rattle.std.proofs.Common.{ltb-true}
use Rattle.std.proofs.lemmas.Int.{ints}

-- at any bound in place of 256 ^ width
one_value :
    (top bits : ℕ) (z : ℤ) (low : Bool) → nat_lt (2 * bits) top ≡ low → bits < top → neg_ℤ (pos top) ≤ℤ (z +ℤ z) → (z +ℤ z) <ℤ pos top →
    (z ≡ pos bits) ⊎ (z +ℤ pos top ≡ pos bits) → z ≡ cond low (pos bits) (pos bits -ℤ pos top)
one_value top bits z true t fits from below same = grind (arith, ints, ltb-true (2 * bits) top t)
one_value top bits z false t fits from below same = grind (arith, ints, ltb-false (2 * bits) top t)

low_end : (top bits : ℕ) (z : ℤ) (low : Bool) → nat_lt (2 * bits) top ≡ low → bits < top → z ≡ cond low (pos bits) (pos bits -ℤ pos top)
    → neg_ℤ (pos top) ≤ℤ (z +ℤ z)
low_end top bits z true t fits e = grind (arith, ints, ltb-true (2 * bits) top t)
low_end top bits z false t fits e = grind (arith, ints, ltb-false (2 * bits) top t)

high_end : (top bits : ℕ) (z : ℤ) (low : Bool) → nat_lt (2 * bits) top ≡ low → bits < top → z ≡ cond low (pos bits) (pos bits -ℤ pos top) → (z +ℤ z) <ℤ pos top
high_end top bits z true t fits e = grind (arith, ints, ltb-true (2 * bits) top t)
high_end top bits z false t fits e = grind (arith, ints, ltb-false (2 * bits) top t)

rest_is : (top bits : ℕ) (z : ℤ) (low : Bool) → z ≡ cond low (pos bits) (pos bits -ℤ pos top) → (z ≡ pos bits) ⊎ (z +ℤ pos top ≡ pos bits)
rest_is top bits z true e = inl e
rest_is top bits z false e = inr (omega (arith, ints, e))

pub signed_numbers : SignedNumbers
signed_numbers width bits z fits = (
  (λ t. one_value (256 ^ width) bits z _ refl fits t.from t.below t.same_bits),
  (λ e. record {
    from = low_end (256 ^ width) bits z _ refl fits e;
    below = high_end (256 ^ width) bits z _ refl fits e;
    same_bits = rest_is (256 ^ width) bits z _ e;
  }),
)
