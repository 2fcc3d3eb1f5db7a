-- Hexadecimal digits, from the first to the last.
use Rattle.fit_cells.proofs.Common.{◌≡◌, ◌∙◌, ℕ, zero, suc, ◌+◌, ◌-◌, ◌*◌, ◌/◌, ◌%◌, ◌^◌, ◌<◌, ◌≤◌, List, [], ◌∷◌, ◌++◌, refl, sym, ap, arith, append_assoc}
use Rattle.fit_cells.proofs.Common.{pow-suc, nat_tests, hex_digit, hex_digits}
use Rattle.std.proofs.Common.{append-nil}

pub two-sixteen : (p : ℕ) → 2 ^ (4 * p) ≡ 16 ^ p
two-sixteen zero = refl
two-sixteen (suc p) =
    let four : 4 * suc p ≡ suc (suc (suc (suc (4 * p)))) = omega arith in
    let h = two-sixteen p in
    rw (four, pow-suc, pow-suc, pow-suc, pow-suc, pow-suc 16 p) (omega (arith, h))

pub low_digit : (d : ℕ) → d < 10 → 48 + d ≡ hex_digit d
low_digit d h = grind (arith, nat_tests)

pub high_digit : (d : ℕ) → 10 ≤ d → 55 + d ≡ hex_digit d
high_digit d h = grind (arith, nat_tests)

pub next_digit : (d k n : ℕ) → k < d → hex_digits (d - k) n ≡ hex_digit (n / 16 ^ (d - 1 - k) % 16) ∷ hex_digits (d - (k + 1)) n
unfolding hex_digits
next_digit d k n h =
    let this : d - k ≡ suc (d - (k + 1)) = omega (arith, h) in
    let place : d - 1 - k ≡ d - (k + 1) = omega arith in
    rw (this, place) refl

pub no_digits : (d k n : ℕ) → d ≤ k → hex_digits (d - k) n ≡ []
unfolding hex_digits
no_digits d k n h = let none : d - k ≡ 0 = omega (arith, h) in rw none refl

-- one more digit
pub more_digits : (text whole : List ℕ) (d k n x : ℕ) → k < d → x ≡ hex_digit (n / 16 ^ (d - 1 - k) % 16) → text ++ hex_digits (d - k) n ≡ whole
    → (text ++ (x ∷ [])) ++ hex_digits (d - (k + 1)) n ≡ whole
more_digits text whole d k n x h is e =
    append_assoc text (x ∷ []) (hex_digits (d - (k + 1)) n) ∙ ap (λ y. text ++ (y ∷ hex_digits (d - (k + 1)) n)) is
    ∙ ap (λ ds. text ++ ds) (sym (next_digit d k n h)) ∙ e

pub all_digits : (text whole : List ℕ) (d k n : ℕ) → d ≤ k → text ++ hex_digits (d - k) n ≡ whole → text ≡ whole
all_digits text whole d k n h e = sym (append-nil text) ∙ ap (λ ds. text ++ ds) (sym (no_digits d k n h)) ∙ e

pub eight_digits : (n : ℕ) → hex_digits 8 n
    ≡ hex_digit (n / 16 ^ 7 % 16) ∷ hex_digit (n / 16 ^ 6 % 16) ∷ hex_digit (n / 16 ^ 5 % 16) ∷ hex_digit (n / 16 ^ 4 % 16)
    ∷ hex_digit (n / 16 ^ 3 % 16) ∷ hex_digit (n / 16 ^ 2 % 16) ∷ hex_digit (n / 16 ^ 1 % 16) ∷ hex_digit (n / 16 ^ 0 % 16) ∷ []
unfolding hex_digits
eight_digits n = refl
