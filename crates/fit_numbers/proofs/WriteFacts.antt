-- Digits that are written after a text, one part after another.
use Rattle.fit_numbers.proofs.Common.{◌≡◌, ◌∙◌, ◌++◌, ◌∷◌, [], ◌+◌, ◌/◌, ◌%◌, ◌^◌, ◌<◌, ◌≤◌, zero, suc, ℕ, decimal, List, refl, ap, ap₂, sym, arith}
use Rattle.fit_numbers.proofs.Common.{append_assoc, div-div-eq-div-mul, mul_comm, last_digits}
use Rattle.std.proofs.lemmas.List.{append-nil}
use Rattle.std.proofs.lemmas.Nat.{pow-add}
use Rattle.std.proofs.Common.{length, take}
use Rattle.std.proofs.Math.Seq.{take-take, take-append-add}
use Rattle.std.proofs.lemmas.List.{length-take-le}
use Rattle.std.specs.Prelude.{ℤ, unsigned_abs}
use Rattle.fit_numbers.specs.FixedText.{fixed_text, fraction, sign}
use Rattle.fit_numbers.proofs.DigitFacts.{last_digits-mod}
use Rattle.fit_numbers.proofs.PutFacts.{two_digits}

-- digits before the last ones
last_digits-add : (a b n : ℕ) → last_digits (a + b) n ≡ last_digits a (n / 10 ^ b) ++ last_digits b n
unfolding last_digits
last_digits-add zero b n = let e : 0 + b ≡ b = omega arith in rw e refl
last_digits-add (suc a) b n =
    let sum : suc a + b ≡ suc (a + b) = omega arith in
    let parts : n / 10 ^ (a + b) ≡ n / 10 ^ b / 10 ^ a =
    ap (λ p. n / p) (pow-add 10 a b ∙ mul_comm (10 ^ a) (10 ^ b)) ∙ sym (div-div-eq-div-mul n (10 ^ b) (10 ^ a)) in
    rw sum (ap₂ (λ x ds. (48 + x % 10) ∷ ds) parts (last_digits-add a b n))

-- after a text, in two parts
joined : (a b n : ℕ) (text : List ℕ) → (text ++ last_digits a (n / 10 ^ b)) ++ last_digits b n ≡ text ++ last_digits (a + b) n
joined a b n text = append_assoc text (last_digits a (n / 10 ^ b)) (last_digits b n) ∙ ap (λ ds. text ++ ds) (sym (last_digits-add a b n))

pub one_and_two : (n : ℕ) (text : List ℕ) → (text ++ last_digits 1 (n / 100)) ++ last_digits 2 n ≡ text ++ last_digits 3 n
one_and_two = joined 1 2

pub two_and_two : (n : ℕ) (text : List ℕ) → (text ++ last_digits 2 (n / 100)) ++ last_digits 2 n ≡ text ++ last_digits 4 n
two_and_two = joined 2 2

pub one_and_four : (n : ℕ) (text : List ℕ) → (text ++ last_digits 1 (n / 10_000)) ++ last_digits 4 n ≡ text ++ last_digits 5 n
one_and_four = joined 1 4

pub two_and_four : (n : ℕ) (text : List ℕ) → (text ++ last_digits 2 (n / 10_000)) ++ last_digits 4 n ≡ text ++ last_digits 6 n
two_and_four = joined 2 4

pub one_and_six : (n : ℕ) (text : List ℕ) → (text ++ last_digits 1 (n / 1_000_000)) ++ last_digits 6 n ≡ text ++ last_digits 7 n
one_and_six = joined 1 6

pub four_and_four : (n : ℕ) (text : List ℕ) → (text ++ last_digits 4 (n / 10_000)) ++ last_digits 4 n ≡ text ++ last_digits 8 n
four_and_four = joined 4 4

pub nine_and_nine : (n : ℕ) (text : List ℕ)
    → (text ++ last_digits 9 (n / 1_000_000_000)) ++ last_digits 9 n ≡ text ++ last_digits 18 n
nine_and_nine = joined 9 9

-- of a number that has no more digits, the last ones of another
pub six_in_two : (n : ℕ) (text : List ℕ)
    → (text ++ last_digits 3 (n % 1_000_000 / 1000)) ++ last_digits 3 (n % 1_000_000) ≡ text ++ last_digits 6 n
six_in_two n text = joined 3 3 (n % 1_000_000) text ∙ ap (λ ds. text ++ ds) (last_digits-mod 6 n)

pub nine_in_two : (n : ℕ) (text : List ℕ)
    → (text ++ last_digits 3 (n % 1_000_000_000 / 1_000_000)) ++ last_digits 6 (n % 1_000_000_000) ≡ text ++ last_digits 9 n
nine_in_two n text = joined 3 6 (n % 1_000_000_000) text ∙ ap (λ ds. text ++ ds) (last_digits-mod 9 n)

pub one_by_one : (text : List ℕ) (a b c d : ℕ)
    → (((text ++ (a ∷ [])) ++ (b ∷ [])) ++ (c ∷ [])) ++ (d ∷ []) ≡ text ++ (a ∷ b ∷ c ∷ d ∷ [])
one_by_one text a b c d = simp append_assoc refl

-- of four bytes that were written, the first few
pub begun : (old new four : List ℕ) (at used : ℕ) → used ≤ 4 → at ≤ length old → take (at + 4) new ≡ take at old ++ four
    → take (at + used) new ≡ take at old ++ take used four
begun old new four at used few room e =
    let start : length (take at old) ≡ at = length-take-le at old room in
    sym (take-take (at + used) (at + 4) new (omega (arith, few))) ∙ ap (take (at + used)) e
    ∙ ap (λ n. take (n + used) (take at old ++ four)) (sym start) ∙ take-append-add (take at old) four used

pub last_one : (n : ℕ) → last_digits 1 n ≡ (48 + n % 10) ∷ []
unfolding last_digits
last_one n = let one : n / 1 ≡ n = omega arith in ap (λ m. (48 + m % 10) ∷ []) one

pub last_two : (n : ℕ) (text : List ℕ)
    → (text ++ ((48 + n % 100 / 10) ∷ [])) ++ ((48 + n % 100 % 10) ∷ []) ≡ text ++ last_digits 2 n
unfolding last_digits
last_two n text =
    let first : n % 100 / 10 ≡ n / 10 % 10 = omega arith in
    let last : n % 100 % 10 ≡ n / 1 % 10 = omega arith in
    append_assoc text ((48 + n % 100 / 10) ∷ []) ((48 + n % 100 % 10) ∷ [])
    ∙ ap₂ (λ a b. text ++ ((48 + a) ∷ (48 + b) ∷ [])) first last

-- two digits are all that a number below 100 has
pub two_are_all : (n : ℕ) → 10 ≤ n → n < 100 → last_digits 2 n ≡ decimal n
unfolding last_digits
two_are_all n low high =
    let first : n / 10 % 10 ≡ n / 10 = omega (arith, high) in
    let last : n / 1 % 10 ≡ n % 10 = omega arith in
    ap₂ (λ a b. (48 + a) ∷ (48 + b) ∷ []) first last ∙ sym (two_digits n low high)

pub after_the_point : (text ds : List ℕ) → (text ++ (46 ∷ [])) ++ ds ≡ text ++ (46 ∷ ds)
after_the_point text ds = append_assoc text (46 ∷ []) ds

-- a whole number, the point and decimals, each put after what was there
pub past_the_point : (text whole ds : List ℕ) → ((text ++ whole) ++ (46 ∷ [])) ++ ds ≡ text ++ (whole ++ (46 ∷ ds))
past_the_point text whole ds = append_assoc (text ++ whole) (46 ∷ []) ds ∙ append_assoc text whole (46 ∷ ds)

-- a number without decimals is its whole part
pub whole_alone : (n : ℕ) → decimal (n / 10 ^ 0) ++ [] ≡ decimal n
whole_alone n = let one : n / 1 ≡ n = omega arith in append-nil (decimal (n / 10 ^ 0)) ∙ ap decimal one

pub both_parts : (text a b : List ℕ) → (text ++ a) ++ b ≡ text ++ (a ++ b)
both_parts = append_assoc

-- a sign and a size of the same number, each written after what was there
pub signed_text : {w : ℤ} (before between after : List ℕ) (v : ℤ) (size decimals unit : ℕ) → w ≡ v → between ≡ before ++ sign w
    → after ≡ between ++ decimal (size / unit) ++ fraction decimals (size % unit) → size ≡ unsigned_abs w → unit ≡ 10 ^ decimals
    → after ≡ before ++ fixed_text v decimals
signed_text before between after v size decimals unit same begun text written power =
    let front = begun ∙ ap (λ n. before ++ sign n) same in
    let is = written ∙ ap unsigned_abs same in
    let whole = decimal (size / unit) in
    let part = fraction decimals (size % unit) in
    text ∙ ap (λ t. (t ++ whole) ++ part) front ∙ ap (λ t. t ++ part) (append_assoc before (sign v) whole)
    ∙ append_assoc before (sign v ++ whole) part
    ∙ ap₂ (λ n u. before ++ ((sign v ++ decimal (n / u)) ++ fraction decimals (n % u))) is power
