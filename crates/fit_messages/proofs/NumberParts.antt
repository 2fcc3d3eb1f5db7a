-- The number that the first bytes of another one are.
use Rattle.std.proofs.Common.{◌≡◌, ◌∙◌, ◌⊎◌, inl, inr, ℕ, ◌+◌, ◌-◌, ◌*◌, ◌/◌, ◌%◌, ◌^◌, ◌<◌, ◌≤◌, List, [], ◌∷◌, ◌++◌, length}
use Rattle.std.proofs.Common.{take, drop, reverse, refl, sym, ap, subst, arith}
use Rattle.std.proofs.Math.Nat.{pow-suc}
use Rattle.std.proofs.lemmas.List.{length-drop, length-take-le, length-reverse, reverse-append, take-append-drop}
use Rattle.std.proofs.lemmas.Nat.{and_mask, div-mul-add, mod-mul-add}
use Rattle.std.specs.Prelude.{bit_and}
use Rattle.fit_base.proofs.ByteLists.{IsBytes-take, IsBytes-drop}
use Rattle.fit_base.proofs.NumberLaws.{number-below}
use Rattle.fit_base.specs.Numbers.{IsBytes, little, number}
use Rattle.fit_base.specs.declared.number.Order.TheVariants.{Little, Big}

-- the bytes that come later weigh more
little_parts : (xs ys : List ℕ) → little (xs ++ ys) ≡ little ys * 256 ^ length xs + little xs
little_parts [] ys = omega arith
little_parts (x ∷ xs) ys = rw (little_parts xs ys, pow-suc) (omega arith)

-- the first bytes are the lowest in little endian
pub first_little : (w : ℕ) (bytes : List ℕ) → IsBytes bytes → w ≤ length bytes → number Little bytes % 256 ^ w ≡ number Little (take w bytes)
first_little w bytes are within =
    let front : List ℕ = take w bytes in
    let back : List ℕ = drop w bytes in
    let long : length front ≡ w = length-take-le w bytes within in
    let below : little front < 256 ^ w = subst (λ k. little front < 256 ^ k) long (number-below Little front (IsBytes-take w bytes are)) in
    ap (λ (b : List ℕ). little b % 256 ^ w) (sym (take-append-drop w bytes)) ∙ ap (λ n. n % 256 ^ w) (little_parts front back)
    ∙ ap (λ k. (little back * 256 ^ k + little front) % 256 ^ w) long ∙ mod-mul-add (little back) (256 ^ w) (little front) below

-- and the highest in big endian
pub first_big : (w k : ℕ) (bytes : List ℕ) → IsBytes bytes → length bytes ≡ w + k → number Big bytes / 256 ^ k ≡ number Big (take w bytes)
first_big w k bytes are all =
    let front : List ℕ = take w bytes in
    let back : List ℕ = drop w bytes in
    let long : length back ≡ k = omega (arith, length-drop w bytes, all) in
    let wide : length (reverse back) ≡ k = length-reverse back ∙ long in
    let below : little (reverse back) < 256 ^ k = subst (λ n. little (reverse back) < 256 ^ n) long (number-below Big back (IsBytes-drop w bytes are)) in
    let turned : reverse bytes ≡ reverse back ++ reverse front = ap reverse (sym (take-append-drop w bytes)) ∙ reverse-append front back in
    ap (λ (b : List ℕ). little b / 256 ^ k) turned ∙ ap (λ n. n / 256 ^ k) (little_parts (reverse back) (reverse front))
    ∙ ap (λ n. (little (reverse front) * 256 ^ n + little (reverse back)) / 256 ^ k) wide
    ∙ div-mul-add (little (reverse front)) (256 ^ k) (little (reverse back)) below

powers_of_two : (w : ℕ) → (w ≡ 1) ⊎ (w ≡ 2) ⊎ (w ≡ 4) ⊎ (w ≡ 8) → (256 ^ w ≡ 2 ^ (8 * w)) × (256 ^ (8 - w) ≡ 2 ^ (64 - 8 * w))
powers_of_two w (inl e) = subst (λ w. (256 ^ w ≡ 2 ^ (8 * w)) × (256 ^ (8 - w) ≡ 2 ^ (64 - 8 * w))) (sym e) (refl, refl)
powers_of_two w (inr (inl e)) = subst (λ w. (256 ^ w ≡ 2 ^ (8 * w)) × (256 ^ (8 - w) ≡ 2 ^ (64 - 8 * w))) (sym e) (refl, refl)
powers_of_two w (inr (inr (inl e))) = subst (λ w. (256 ^ w ≡ 2 ^ (8 * w)) × (256 ^ (8 - w) ≡ 2 ^ (64 - 8 * w))) (sym e) (refl, refl)
powers_of_two w (inr (inr (inr e))) = subst (λ w. (256 ^ w ≡ 2 ^ (8 * w)) × (256 ^ (8 - w) ≡ 2 ^ (64 - 8 * w))) (sym e) (refl, refl)

widths_few : (w : ℕ) → (w ≡ 1) ⊎ (w ≡ 2) ⊎ (w ≡ 4) ⊎ (w ≡ 8) → w ≤ 8
widths_few w (inl e) = omega (arith, e)
widths_few w (inr (inl e)) = omega (arith, e)
widths_few w (inr (inr (inl e))) = omega (arith, e)
widths_few w (inr (inr (inr e))) = omega (arith, e)

-- by a mask
pub first_masked : (w mask n : ℕ) (eight : List ℕ) → (w ≡ 1) ⊎ (w ≡ 2) ⊎ (w ≡ 4) ⊎ (w ≡ 8) → IsBytes eight → length eight ≡ 8
    → mask + 1 ≡ 256 ^ w → n ≡ number Little eight → bit_and n mask ≡ number Little (take w eight)
first_masked w mask n eight width are all is read =
    let ones : mask ≡ 2 ^ (8 * w) - 1 = omega (arith, is ∙ (powers_of_two w width).0) in
    ap (bit_and n) ones ∙ and_mask n (8 * w) ∙ ap (λ k. n % k) (sym (powers_of_two w width).0)
    ∙ ap (λ k. k % 256 ^ w) read ∙ first_little w eight are (omega (arith, all, widths_few w width))

-- by a shift
pub first_shifted : (w n : ℕ) (eight : List ℕ) → (w ≡ 1) ⊎ (w ≡ 2) ⊎ (w ≡ 4) ⊎ (w ≡ 8) → IsBytes eight → length eight ≡ 8
    → n ≡ number Big eight → n / 2 ^ (64 - 8 * w) ≡ number Big (take w eight)
first_shifted w n eight width are all read =
    ap (λ k. n / k) (sym (powers_of_two w width).1) ∙ ap (λ k. k / 256 ^ (8 - w)) read
    ∙ first_big w (8 - w) eight are (omega (arith, all, widths_few w width))
