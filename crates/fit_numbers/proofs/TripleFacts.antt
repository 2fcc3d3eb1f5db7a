-- The table of the digits of numbers below 1000.
use Rattle.fit_numbers.proofs.Common.{inl, inr, ◌≡◌, ◌∙◌, ℕ, zero, suc, ◌+◌, ◌*◌, ◌/◌, ◌%◌, ◌<◌, ◌≤◌, Bool, true, List, ◌∷◌, [], get_or, refl, ap, sym, arith}
use Rattle.fit_numbers.proofs.Common.{length, and_parts, take, decimal, cases_lt, last_digits, triple_byte}
use Rattle.std.proofs.Common.{◌==◌, ◌&&◌, ◌-◌}
use Rattle.std.proofs.lemmas.Bool.{eqb-true, lt-ltb, le-ltb}
use Rattle.fit_numbers.proofs.PutFacts.{one_digit, two_digits, three_digits}
use Rattle.fit_numbers.specs.inner.Digits.{zeros_of}
use Rattle.fit_numbers.specs.declared.triples.TheConstants.{TRIPLES}

-- the list holds the bytes of the table from a place on: a test, which computes over a whole table
abbrev are_bytes : ℕ → List ℕ → Bool
are_bytes place [] = true
are_bytes place (x ∷ xs) = (x == triple_byte place) && are_bytes (suc place) xs

byte_from : (place : ℕ) (xs : List ℕ) (k : ℕ) → are_bytes place xs ≡ true → k < length xs → get_or xs k 0 ≡ triple_byte (place + k)
byte_from place [] k test within = absurd (omega (arith, within))
byte_from place (x ∷ xs) zero test within =
    let parts = and_parts (x == triple_byte place) (are_bytes (suc place) xs) test in
    let same : place + 0 ≡ place = omega arith in
    rw same (eqb-true x (triple_byte place) parts.0)
byte_from place (x ∷ xs) (suc k) test within =
    let parts = and_parts (x == triple_byte place) (are_bytes (suc place) xs) test in
    let sum : suc place + k ≡ place + suc k = omega arith in
    byte_from (suc place) xs k parts.1 (omega (arith, within)) ∙ ap triple_byte sum

whole_table : are_bytes 0 TRIPLES ≡ true
unfolding triple_byte
whole_table = refl

pub byte_at : (place : ℕ) → place < 4000 → get_or TRIPLES place 0 ≡ triple_byte place
byte_at place below = let same : 0 + place ≡ place = omega arith in byte_from 0 TRIPLES place whole_table below ∙ ap triple_byte same

-- the entry of a number
pub hundreds_byte : (n : ℕ) → triple_byte (n * 4) ≡ 48 + n / 100
unfolding triple_byte
hundreds_byte n =
    let byte : n * 4 % 4 ≡ 0 = omega arith in
    let number : n * 4 / 4 ≡ n = omega arith in
    rw (byte, number) refl

pub tens_byte : (n : ℕ) → triple_byte (n * 4 + 1) ≡ 48 + n / 10 % 10
unfolding triple_byte
tens_byte n =
    let byte : (n * 4 + 1) % 4 ≡ 1 = omega arith in
    let number : (n * 4 + 1) / 4 ≡ n = omega arith in
    rw (byte, number) refl

pub ones_byte : (n : ℕ) → triple_byte (n * 4 + 2) ≡ 48 + n % 10
unfolding triple_byte
ones_byte n =
    let byte : (n * 4 + 2) % 4 ≡ 2 = omega arith in
    let number : (n * 4 + 2) / 4 ≡ n = omega arith in
    rw (byte, number) refl

pub zeros_byte : (n : ℕ) → triple_byte (n * 4 + 3) ≡ 48 + zeros_of n
unfolding triple_byte
zeros_byte n =
    let byte : (n * 4 + 3) % 4 ≡ 3 = omega arith in
    let number : (n * 4 + 3) / 4 ≡ n = omega arith in
    rw (byte, number) refl

-- the three digits, of the rest of a number or of all of it
pub three_digits_last : (n : ℕ) → triple_byte (n % 1000 * 4) ∷ triple_byte (n % 1000 * 4 + 1) ∷ triple_byte (n % 1000 * 4 + 2) ∷ [] ≡ last_digits 3 n
unfolding last_digits
three_digits_last n =
    let a : n % 1000 / 100 ≡ n / 100 % 10 = omega arith in
    let b : n % 1000 / 10 % 10 ≡ n / 10 % 10 = omega arith in
    let c : n % 1000 % 10 ≡ n / 1 % 10 = omega arith in
    rw (hundreds_byte (n % 1000), tens_byte (n % 1000), ones_byte (n % 1000), a, b, c) refl

no_zeros : (n : ℕ) → 100 ≤ n → n < 1000
    → triple_byte (n * 4 + 0) ∷ triple_byte (n * 4 + 0 + 1) ∷ triple_byte (n * 4 + 0 + 2) ∷ [] ≡ decimal n
no_zeros n low high =
    let place : n * 4 + 0 ≡ n * 4 = omega arith in
    let b : n / 10 % 10 ≡ n % 100 / 10 = omega arith in
    let c : n % 10 ≡ n % 100 % 10 = omega arith in
    rw (place, hundreds_byte n, tens_byte n, ones_byte n, b, c) (sym (three_digits n low high))

one_zero : (n : ℕ) → 10 ≤ n → n < 100 → triple_byte (n * 4 + 1) ∷ triple_byte (n * 4 + 1 + 1) ∷ [] ≡ decimal n
one_zero n low high =
    let place : n * 4 + 1 + 1 ≡ n * 4 + 2 = omega arith in
    let a : n / 10 % 10 ≡ n / 10 = omega (arith, high) in
    rw (place, tens_byte n, ones_byte n, a) (sym (two_digits n low high))

two_zeros : (n : ℕ) → n < 10 → triple_byte (n * 4 + 2) ∷ [] ≡ decimal n
two_zeros n high = let a : n % 10 ≡ n = omega (arith, high) in rw (ones_byte n, a) (sym (one_digit n high))

-- the digits after the zeros in front
pub shown : (n zeros d : ℕ) → n < 1000 → zeros ≡ zeros_of n
    → take (3 - zeros) (triple_byte (n * 4 + zeros) ∷ triple_byte (n * 4 + zeros + 1) ∷ triple_byte (n * 4 + zeros + 2) ∷ d ∷ []) ≡ decimal n
shown n zeros d high e = elim (cases_lt n 10) [
  | inl one ↦
      let is : zeros ≡ 2 = e ∙ simp (lt-ltb n 10 one) refl in
      rw is (two_zeros n one)
  | inr more ↦ elim (cases_lt n 100) [
    | inl two ↦
        let is : zeros ≡ 1 = e ∙ simp (le-ltb n 10 more, lt-ltb n 100 two) refl in
        rw is (one_zero n more two)
    | inr three ↦
        let is : zeros ≡ 0 = e ∙ simp (le-ltb n 10 more, le-ltb n 100 three) refl in
        rw is (no_zeros n three high)
  ]
]
