-- What the tables hold, and a byte by a table.
use Rattle.fit_sum.proofs.Common.{◌≡◌, ℕ, zero, suc, ◌+◌, ◌*◌, ◌-◌, ◌/◌, ◌%◌, ◌<◌, ◌≤◌, ◌==◌, ◌&&◌, Bool, true, false, List, [], ◌∷◌, length, refl, arith}
use Rattle.fit_sum.proofs.Common.{get_or, ap, sym, ◌∙◌, bit_xor, xor_assoc, shift, shifts}
use Rattle.std.proofs.lemmas.Bool.{eqb-true}
use Rattle.fit_sum.specs.declared.tables.TheConstants.{TABLES}
use Rattle.fit_sum.proofs.ShiftsOfSums.{steps-parts, steps-xor}

-- what place i of the tables is to hold
abbrev at_place : ℕ → ℕ
at_place i = shifts (8 * (i / 256 + 1)) (i % 256)

-- the list holds what the tables are to hold from place i on: a test, which computes over all of them
unfoldable are_tables : ℕ → List ℕ → Bool
are_tables i [] = true
are_tables i (x ∷ xs) = (x == at_place i) && are_tables (suc i) xs

both : (a b : Bool) → (a && b) ≡ true → (a ≡ true) × (b ≡ true)
both true b h = (refl, h)
both false b h = cc

entry_from : (i : ℕ) (xs : List ℕ) (j : ℕ) → are_tables i xs ≡ true → j < length xs → get_or xs j 0 ≡ at_place (i + j)
unfolding are_tables
entry_from i [] j t h = absurd (omega arith)
entry_from i (x ∷ xs) zero t h =
    let e = eqb-true x (at_place i) (both (x == at_place i) (are_tables (suc i) xs) t).0 in
    let same : i ≡ i + 0 = omega arith in
    e ∙ ap (λ k. at_place k) same
entry_from i (x ∷ xs) (suc j) t h =
    let e = entry_from (suc i) xs j (both (x == at_place i) (are_tables (suc i) xs) t).1 (omega arith) in
    let same : suc i + j ≡ i + suc j = omega arith in
    e ∙ ap (λ k. at_place k) same

entry : (j : ℕ) → j < 2048 → get_or TABLES j 0 ≡ at_place (0 + j)
unfolding are_tables shifts shift
entry j h = entry_from 0 TABLES j refl h

pub left_after : (count byte : ℕ) → 0 < count → count ≤ 8 → byte < 256 → get_or TABLES (256 * (count - 1) + byte) 0 ≡ shifts (8 * count) byte
left_after count byte some few h =
    let place = 256 * (count - 1) + byte in
    let within : 256 * (count - 1) + byte < 2048 = omega arith in
    let which : (0 + (256 * (count - 1) + byte)) / 256 + 1 ≡ count = omega arith in
    let left : (0 + (256 * (count - 1) + byte)) % 256 ≡ byte = omega arith in
    entry place within ∙ ap (λ n. shifts (8 * n) ((0 + place) % 256)) which ∙ ap (shifts (8 * count)) left

-- ---- a byte at once
pub byte-step : (c b : ℕ) → b < 256 → bit_xor (c / 256) (shifts 8 (bit_xor (c % 256) b)) ≡ shifts 8 (bit_xor c b)
byte-step c b h = rw (steps-xor 8 (c % 256) b, ← xor_assoc (c / 256) (shifts 8 (c % 256)) (shifts 8 b), ← steps-parts 8 c) (sym (steps-xor 8 c b))
