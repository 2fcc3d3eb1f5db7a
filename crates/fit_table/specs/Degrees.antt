-- Semicircles in degrees, as a function.
use Rattle.std.specs.Prelude.{ℕ, suc, ◌+◌, ◌*◌, ◌/◌, ◌^◌, ℤ, pos, negsuc, neg_ℤ}

-- the whole number nearest to n / m, and of two that are equally near the greater one
abbrev pub nearest : ℕ → ℕ → ℕ
nearest n m = (2 * n + m) / (2 * m)

-- in units of the seventh decimal: 2 ^ 31 semicircles are 180 degrees, and of two numbers that are equally near the one further from
-- zero counts. That it is the nearest number is the law `degrees_are_nearest`.
abbrev pub degrees_of : ℤ → ℤ
degrees_of (pos s) = pos (nearest (s * (180 * 10 ^ 7)) (2 ^ 31))
degrees_of (negsuc s) = neg_ℤ (pos (nearest (suc s * (180 * 10 ^ 7)) (2 ^ 31)))
