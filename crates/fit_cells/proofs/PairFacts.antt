-- The two hexadecimal digits of each byte, and those of the bytes of a number.
use Rattle.fit_cells.proofs.Common.{◌≡◌, ◌∙◌, ℕ, suc, ◌+◌, ◌-◌, ◌*◌, ◌/◌, ◌%◌, ◌^◌, ◌<◌, ◌≤◌}
use Rattle.fit_cells.proofs.Common.{List, ◌∷◌, [], ◌++◌, true, refl, sym, ap, ap₂, arith, get_or, drop}
use Rattle.fit_cells.proofs.Common.{eqb-true, append_assoc, pow-succ', hex_digit, hex_digits}
use Rattle.fit_cells.proofs.HexFacts.{two-sixteen}
use Rattle.std.proofs.Common.{append-nil}
use Rattle.std.proofs.Math.Nat.{div-div-eq-div-mul}
use Rattle.std.proofs.Common.{◌==◌}
use Rattle.std.proofs.lemmas.Bool.{agree_below_at}
use Rattle.std.proofs.lemmas.List.{drop-drop}
use Rattle.fit_cells.specs.declared.hexadecimal.TheConstants.{PAIRS}

pub pair_at : (b : ℕ) → b < 256 → get_or PAIRS (2 * b) 0 ∷ get_or PAIRS (2 * b + 1) 0 ∷ [] ≡ hex_digits 2 b
unfolding hex_digits
pair_at b below =
    let first = agree_below_at (λ n. get_or PAIRS (2 * n) 0 == hex_digit (n / 16 ^ 1 % 16)) (λ n. true) 256 b refl below in
    let second = agree_below_at (λ n. get_or PAIRS (2 * n + 1) 0 == hex_digit (n / 16 ^ 0 % 16)) (λ n. true) 256 b refl below in
    ap₂ (λ x y. x ∷ y ∷ []) (eqb-true _ _ first) (eqb-true _ _ second)

-- the two digits of a byte of a number
byte_digits : (n j : ℕ) → hex_digits 2 (n / 2 ^ (8 * j) % 256) ≡ hex_digit (n / 16 ^ suc (2 * j) % 16) ∷ hex_digit (n / 16 ^ (2 * j) % 16) ∷ []
unfolding hex_digits
byte_digits n j =
    let places : 8 * j ≡ 4 * (2 * j) = omega arith in
    let power : 2 ^ (8 * j) ≡ 16 ^ (2 * j) = ap (λ p. 2 ^ p) places ∙ two-sixteen (2 * j) in
    let m = n / 16 ^ (2 * j) in
    let turned : 16 ^ (2 * j) * 16 ≡ 16 * 16 ^ (2 * j) = omega arith in
    let above : m / 16 ≡ n / 16 ^ suc (2 * j) = div-div-eq-div-mul n (16 ^ (2 * j)) 16 ∙ ap (λ p. n / p) (turned ∙ sym (pow-succ' 16 (2 * j))) in
    let first : m % 256 / 16 % 16 ≡ m / 16 % 16 = omega arith in
    let last : m % 256 / 1 % 16 ≡ m % 16 = omega arith in
    ap (λ p. hex_digit (n / p % 256 / 16 % 16) ∷ hex_digit (n / p % 256 / 1 % 16) ∷ []) power
    ∙ ap₂ (λ a b. hex_digit a ∷ hex_digit b ∷ []) (first ∙ ap (λ d. d % 16) above) last

-- one more byte of a number is written
pub byte_written : (n w k : ℕ) (text new whole : List ℕ) → k < w → new ≡ text ++ hex_digits 2 (n / 2 ^ (8 * (w - 1 - k)) % 256)
    → text ++ hex_digits (2 * (w - k)) n ≡ whole → new ++ hex_digits (2 * (w - (k + 1))) n ≡ whole
unfolding hex_digits
byte_written n w k text new whole less put told =
    let j = w - (k + 1) in
    let place : w - 1 - k ≡ j = omega arith in
    let digits : 2 * (w - k) ≡ suc (suc (2 * j)) = omega (arith, less) in
    ap (λ t. t ++ hex_digits (2 * j) n) (put ∙ ap (λ p. text ++ hex_digits 2 (n / 2 ^ (8 * p) % 256)) place ∙ ap (λ ds. text ++ ds) (byte_digits n j))
    ∙ append_assoc text (hex_digit (n / 16 ^ suc (2 * j) % 16) ∷ hex_digit (n / 16 ^ (2 * j) % 16) ∷ []) (hex_digits (2 * j) n)
    ∙ ap (λ d. text ++ hex_digits d n) (sym digits) ∙ told

-- all of them are written
pub bytes_written : (n w k : ℕ) (text whole : List ℕ) → w ≤ k → text ++ hex_digits (2 * (w - k)) n ≡ whole → text ≡ whole
unfolding hex_digits
bytes_written n w k text whole done told =
    let none : 2 * (w - k) ≡ 0 = omega (arith, done) in
    sym (ap (λ d. text ++ hex_digits d n) none ∙ append-nil text) ∙ told

-- what stands after the bytes that are written
pub same_after : (between end : ℕ) (old middle new : List ℕ) → between ≤ end → drop end new ≡ drop end middle → drop between middle ≡ drop between old
    → drop end new ≡ drop end old
same_after between end old middle new less last first =
    let reach : between + (end - between) ≡ end = omega (arith, less) in
    let further : (row : List ℕ) → drop (end - between) (drop between row) ≡ drop end row =
    λ row. drop-drop (end - between) between row ∙ ap (λ n. drop n row) reach in
    last ∙ sym (further middle) ∙ ap (drop (end - between)) first ∙ further old
