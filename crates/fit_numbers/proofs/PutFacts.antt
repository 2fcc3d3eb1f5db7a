-- The digits of numbers that are put one after another.
use Rattle.fit_numbers.proofs.Common.{◌≡◌, ◌∙◌, ◌++◌, ◌∷◌, [], ◌+◌, ◌*◌, ◌/◌, ◌%◌, ◌^◌, ◌<◌, ◌≤◌, zero, suc, ℕ, decimal, List, refl, ap, ap₂, sym, arith}
use Rattle.fit_numbers.proofs.Common.{append_assoc, length, take, pow-succ', div-div-eq-div-mul, decimal_by_steps_wide, decimal_step_wide, last_digits}
use Rattle.std.proofs.lemmas.List.{append-nil}
use Rattle.std.proofs.Math.Seq.{take-append_seam, take-append-add}
use Rattle.fit_numbers.proofs.DigitFacts.{last_digits-end, last_digits-none, power_above}

pub one_digit : (n : ℕ) → n < 10 → decimal n ≡ (48 + n) ∷ []
one_digit n h = decimal_by_steps_wide (λ m ds. m < 10 → ds ≡ (48 + m) ∷ []) (λ m l less. refl) (λ m ds l more less. absurd (omega (arith, l, less))) n
    (omega (arith, h)) h

pub two_digits : (n : ℕ) → 10 ≤ n → n < 100 → decimal n ≡ (48 + n / 10) ∷ (48 + n % 10) ∷ []
two_digits n low high = decimal_step_wide n low (omega (arith, high)) ∙ ap (λ ds. ds ++ ((48 + n % 10) ∷ [])) (one_digit (n / 10) (omega (arith, high)))

pub three_digits : (n : ℕ) → 100 ≤ n → n < 1000 → decimal n ≡ (48 + n / 100) ∷ (48 + n % 100 / 10) ∷ (48 + n % 100 % 10) ∷ []
three_digits n low high =
    let a : n / 10 / 10 ≡ n / 100 = omega arith in
    let b : n / 10 % 10 ≡ n % 100 / 10 = omega arith in
    let c : n % 10 ≡ n % 100 % 10 = omega arith in
    decimal_step_wide n (omega (arith, low)) (omega (arith, high))
    ∙ ap (λ ds. ds ++ ((48 + n % 10) ∷ [])) (two_digits (n / 10) (omega (arith, low)) (omega (arith, high)))
    ∙ rw (a, b, c) refl

pub four_digits : (n : ℕ) → 1000 ≤ n → n < 10_000
    → decimal n ≡ (48 + n / 100 / 10) ∷ (48 + n / 100 % 10) ∷ (48 + n % 100 / 10) ∷ (48 + n % 100 % 10) ∷ []
four_digits n low high =
    let a : n / 10 / 100 ≡ n / 100 / 10 = omega arith in
    let b : n / 10 % 100 / 10 ≡ n / 100 % 10 = omega arith in
    let c : n / 10 % 100 % 10 ≡ n % 100 / 10 = omega arith in
    let d : n % 10 ≡ n % 100 % 10 = omega arith in
    decimal_step_wide n (omega (arith, low)) (omega (arith, high))
    ∙ ap (λ ds. ds ++ ((48 + n % 10) ∷ [])) (three_digits (n / 10) (omega (arith, low)) (omega (arith, high)))
    ∙ rw (a, b, c, d) refl

-- a number is what stands before its last digits, and those
pub split_digits : (k n : ℕ) → 10 ^ k ≤ n → n < 10 ^ 64 → decimal n ≡ decimal (n / 10 ^ k) ++ last_digits k n
split_digits zero n low high = rw last_digits-none (let e : n / 1 ≡ n = omega arith in rw e (sym (append-nil (decimal n))))
split_digits (suc k) n low high =
    let above = power_above k in
    let tens : 10 ^ suc k ≡ 10 * 10 ^ k = pow-succ' 10 k in
    let least : 10 * 10 ^ k ≤ n = rw tens at low in
    let parts : n / 10 ^ suc k ≡ n / 10 / 10 ^ k = ap (λ p. n / p) tens ∙ sym (div-div-eq-div-mul n 10 (10 ^ k)) in
    decimal_step_wide n (omega (arith, least, above)) high
    ∙ ap (λ ds. ds ++ ((48 + n % 10) ∷ [])) (split_digits k (n / 10) (omega (arith, least)) (omega (arith, high)))
    ∙ append_assoc (decimal (n / 10 / 10 ^ k)) (last_digits k (n / 10)) ((48 + n % 10) ∷ [])
    ∙ ap₂ (λ q ds. decimal q ++ ds) (sym parts) (sym (last_digits-end k n))

-- after a text, in two parts
put_parts : (k n : ℕ) (text : List ℕ) → 10 ^ k ≤ n → n < 2 ^ 64 → (text ++ decimal (n / 10 ^ k)) ++ last_digits k n ≡ text ++ decimal n
put_parts k n text low high = append_assoc text (decimal (n / 10 ^ k)) (last_digits k n)
    ∙ ap (λ ds. text ++ ds) (sym (split_digits k n low (omega (arith, high))))

pub before_three : (n : ℕ) (text : List ℕ) → 1000 ≤ n → n < 2 ^ 64 → (text ++ decimal (n / 1000)) ++ last_digits 3 n ≡ text ++ decimal n
before_three = put_parts 3

pub before_six : (n : ℕ) (text : List ℕ) → 1_000_000 ≤ n → n < 2 ^ 64
    → (text ++ decimal (n / 1_000_000)) ++ last_digits 6 n ≡ text ++ decimal n
before_six = put_parts 6

pub before_nine : (n : ℕ) (text : List ℕ) → 1_000_000_000 ≤ n → n < 2 ^ 64
    → (text ++ decimal (n / 1_000_000_000)) ++ last_digits 9 n ≡ text ++ decimal n
before_nine = put_parts 9

pub before_eighteen : (n : ℕ) (text : List ℕ) → 1_000_000_000_000_000_000 ≤ n → n < 2 ^ 64
    → (text ++ decimal (n / 1_000_000_000_000_000_000)) ++ last_digits 18 n ≡ text ++ decimal n
before_eighteen = put_parts 18

-- what was put after a text with other bytes, which were cut off
pub used_only : (old all digits : List ℕ) (used : ℕ) → all ≡ old ++ digits → take (length old + used) all ≡ old ++ take used digits
used_only old all digits used e = ap (take (length old + used)) e ∙ take-append-add old digits used

-- what was written after a text and after it other bytes, of which these were cut off
pub cut : (old more all : List ℕ) → all ≡ old ++ more → take (length old) all ≡ old
cut old more all e = ap (take (length old)) e ∙ take-append_seam old more

-- what was put after a text, and more after that
pub then_put : (old mid new first more : List ℕ) → mid ≡ old ++ first → new ≡ mid ++ more → new ≡ old ++ (first ++ more)
then_put old mid new first more put then = then ∙ ap (λ text. text ++ more) put ∙ append_assoc old first more
