-- Scaled numbers, and items side by side.
use Rattle.fit_cells.proofs.Common.{◌≡◌, ◌∙◌, ℕ, zero, suc, ◌*◌, ◌/◌, ◌%◌, ◌^◌, ◌<◌, ◌≤◌, Bool, true, false, cond, List, [], ◌∷◌, ◌++◌, ℤ, pos, neg_ℤ, ◌*ℤ◌}
use Rattle.fit_cells.proofs.Common.{◌-ℤ◌, ◌≤ℤ◌, ◌<ℤ◌, unsigned_abs, ◌⊎◌, inl, inr, Some, None, length, refl, sym, ap, arith, length-append, decimal, nat_lt}
use Rattle.fit_cells.proofs.Common.{to_z, of_z, FitsSigned, digits, digits_onto, digit_glyph, cases_Bool, ints, to_z-of_z, w128, twos_complement, Meaning}
use Rattle.fit_cells.proofs.Common.{subst, fixed_text, fraction, sign, IsIn128, IsScale, IsScaled, decimals, number_text, scaled_value}
use Rattle.std.proofs.Common.{Option, ◌==◌}

-- what holds of each scale
each-scale : (P : ℕ → Type 0) → P 1 → P 5 → P 10 → P 100 → P 1000 → P 16 → P 256 → (s : ℕ) → IsScale s → P s
each-scale P a b c d e f g s (inl is) = subst P (sym is) a
each-scale P a b c d e f g s (inr (inl is)) = subst P (sym is) b
each-scale P a b c d e f g s (inr (inr (inl is))) = subst P (sym is) c
each-scale P a b c d e f g s (inr (inr (inr (inl is)))) = subst P (sym is) d
each-scale P a b c d e f g s (inr (inr (inr (inr (inl is))))) = subst P (sym is) e
each-scale P a b c d e f g s (inr (inr (inr (inr (inr (inl is)))))) = subst P (sym is) f
each-scale P a b c d e f g s (inr (inr (inr (inr (inr (inr is)))))) = subst P (sym is) g

-- a value that a raw one stands for is the scaled one
pub is_scaled : (raw v : ℤ) (scale offset : ℕ) → IsScale scale → IsScaled raw scale offset v → v ≡ scaled_value raw scale offset
is_scaled raw v s offset is =
    each-scale (λ n. IsScaled raw n offset v → v ≡ scaled_value raw n offset)
    (λ h. omega (arith, ints, h)) (λ h. omega (arith, ints, h)) (λ h. omega (arith, ints, h)) (λ h. omega (arith, ints, h))
    (λ h. omega (arith, ints, h)) (λ h. omega (arith, ints, h)) (λ h. omega (arith, ints, h)) s is

-- what is shown of a usual number is in the range of `i128`
pub scaled-in : (number : ℤ) (s : ℕ) → IsScale s → neg_ℤ (pos (2 ^ 66)) ≤ℤ number → number ≤ℤ pos (2 ^ 66) → IsIn128 (number *ℤ pos (10 ^ decimals s / s))
scaled-in v s (inl one) low high = rw one (omega (arith, ints, low), omega (arith, ints, high))
scaled-in v s (inr (inl five)) low high = rw five (omega (arith, ints, low), omega (arith, ints, high))
scaled-in v s (inr (inr (inl ten))) low high = rw ten (omega (arith, ints, low), omega (arith, ints, high))
scaled-in v s (inr (inr (inr (inl hundred)))) low high = rw hundred (omega (arith, ints, low), omega (arith, ints, high))
scaled-in v s (inr (inr (inr (inr (inl thousand))))) low high = rw thousand (omega (arith, ints, low), omega (arith, ints, high))
scaled-in v s (inr (inr (inr (inr (inr (inl sixteen)))))) low high = rw sixteen (omega (arith, ints, low), omega (arith, ints, high))
scaled-in v s (inr (inr (inr (inr (inr (inr most)))))) low high = rw most (omega (arith, ints, low), omega (arith, ints, high))

-- a number's text isn't empty
digits-some : (k n : ℕ) (acc : List ℕ) → 0 < length acc → 0 < length (digits_onto k 10 false n acc)
digits-some zero n acc h = h
digits-some (suc k) n acc h = elim (cases_Bool (n / 10 == 0)) [
  | inl last ↦ rw last (omega arith)
  | inr other ↦ rw other (digits-some k (n / 10) (digit_glyph false (n % 10) ∷ acc) (omega arith))
]

decimal-some : (n : ℕ) → 0 < length (decimal n)
unfolding digits
decimal-some n = elim (cases_Bool (n / 10 == 0)) [
  | inl last ↦ rw last (omega arith)
  | inr other ↦ rw other (digits-some 63 (n / 10) (digit_glyph false (n % 10) ∷ []) (omega arith))
]

fixed-some : (v : ℤ) (d : ℕ) → 0 < length (fixed_text v d)
fixed-some v d =
    let some = decimal-some (unsigned_abs v / 10 ^ d) in
    let whole = length-append (sign v) (decimal (unsigned_abs v / 10 ^ d)) in
    let all = length-append (sign v ++ decimal (unsigned_abs v / 10 ^ d)) (fraction d (unsigned_abs v % 10 ^ d)) in
    omega (arith, some, whole, all)

pub number-some : (info : Option Meaning) (raw : ℤ) → 0 < length (number_text info raw)
number-some None raw = fixed-some raw 0
number-some (Some i) raw = fixed-some _ _

-- just the invalid item is empty
pub empty-number : (b : Bool) (info : Option Meaning) (raw : ℤ) (text : List ℕ) → length text ≡ 0 → text ≡ cond b [] (number_text info raw) → b ≡ true
empty-number true info raw text h e = refl
empty-number false info raw text h e = let same = ap length e in let some = number-some info raw in absurd (omega (arith, same, some, h))

pub some-number : (b : Bool) (info : Option Meaning) (raw : ℤ) (text : List ℕ) → (length text ≡ 0 → ⊥) → text ≡ cond b [] (number_text info raw)
    → text ≡ number_text info raw
some-number true info raw text h e = absurd (h (ap length e))
some-number false info raw text h e = e

-- a signed number is its bits, or those less 256 ^ width
pub complement-is : (width bits : ℕ) → (twos_complement width bits ≡ pos bits) ⊎ (twos_complement width bits ≡ pos bits -ℤ pos (256 ^ width))
complement-is width bits = elim (cases_Bool (nat_lt (2 * bits) (256 ^ width))) [
  | inl low ↦ inl (rw low refl)
  | inr high ↦ inr (rw high refl)
]

pub power-bound : (w : ℕ) → (w ≡ 1) ⊎ (w ≡ 2) ⊎ (w ≡ 4) ⊎ (w ≡ 8) → 256 ^ w ≤ 2 ^ 64
power-bound w (inl one) = rw one (omega arith)
power-bound w (inr (inl two)) = rw two (omega arith)
power-bound w (inr (inr (inl four))) = rw four (omega arith)
power-bound w (inr (inr (inr eight))) = rw eight (omega arith)

pub raw-least : (raw : ℤ) (bits limit : ℕ) → limit ≤ 2 ^ 64 → (raw ≡ pos bits) ⊎ (raw ≡ pos bits -ℤ pos limit) → neg_ℤ (pos (2 ^ 64)) ≤ℤ raw
raw-least raw bits limit h (inl e) = rw e (omega (arith, ints))
raw-least raw bits limit h (inr e) = omega (arith, ints, e, h)

pub raw-most : (raw : ℤ) (bits limit : ℕ) → limit ≤ 2 ^ 64 → bits < limit → (raw ≡ pos bits) ⊎ (raw ≡ pos bits -ℤ pos limit) → raw <ℤ pos (2 ^ 64)
raw-most raw bits limit h below (inl e) = omega (arith, ints, e, h, below)
raw-most raw bits limit h below (inr e) = omega (arith, ints, e, h, below)

-- a number read back from its 128 bits
pub kept : (x v : ℤ) → IsIn128 v → x ≡ v → to_z w128 (of_z w128 x) ≡ v
kept x v inside e = let fits : FitsSigned w128 x = rw e (omega (arith, ints, inside)) in to_z-of_z w128 x fits ∙ e

pub raw-in : (raw : ℤ) → neg_ℤ (pos (2 ^ 64)) ≤ℤ raw → raw <ℤ pos (2 ^ 64) → IsIn128 raw
raw-in raw least most = (omega (arith, ints, least), omega (arith, ints, most))

pub same-raw : (w v bits : ℕ) (x y : ℤ) → w ≡ v → x ≡ y → (y ≡ pos bits) ⊎ (y ≡ pos bits -ℤ pos (256 ^ v)) → (x ≡ pos bits) ⊎ (x ≡ pos bits -ℤ pos (256 ^ w))
same-raw w v bits x y d e (inl h) = inl (e ∙ h)
same-raw w v bits x y d e (inr h) = inr (e ∙ h ∙ ap (λ k. pos bits -ℤ pos (256 ^ k)) (sym d))

pub scaled_exact : (raw : ℤ) (scale offset : ℕ) → IsScale scale → IsScaled raw scale offset (scaled_value raw scale offset)
scaled_exact raw s offset is =
    each-scale (λ n. IsScaled raw n offset (scaled_value raw n offset))
    (omega (arith, ints)) (omega (arith, ints)) (omega (arith, ints)) (omega (arith, ints))
    (omega (arith, ints)) (omega (arith, ints)) (omega (arith, ints)) s is

-- what is shown has one raw value
pub one-raw : (x y : ℤ) (s : ℕ) → IsScale s → x *ℤ pos (10 ^ decimals s / s) ≡ y *ℤ pos (10 ^ decimals s / s) → x ≡ y
one-raw x y s is =
    each-scale (λ n. x *ℤ pos (10 ^ decimals n / n) ≡ y *ℤ pos (10 ^ decimals n / n) → x ≡ y)
    (λ h. omega (arith, ints, h)) (λ h. omega (arith, ints, h)) (λ h. omega (arith, ints, h)) (λ h. omega (arith, ints, h))
    (λ h. omega (arith, ints, h)) (λ h. omega (arith, ints, h)) (λ h. omega (arith, ints, h)) s is

pub shift-bound : (offset s : ℕ) → IsScale s → offset < 2 ^ 32 → offset * s ≤ 2 ^ 42
shift-bound offset s is h =
    each-scale (λ n. offset * n ≤ 2 ^ 42)
    (omega (arith, h)) (omega (arith, h)) (omega (arith, h)) (omega (arith, h))
    (omega (arith, h)) (omega (arith, h)) (omega (arith, h)) s is
