-- The least number from a start on that leaves a given rest.
use Rattle.std.specs.Prelude.{◌≡◌, ◌≤◌, ℕ, ◌%◌, ◌==◌, Option, find}
use Rattle.std.specs.List.{range_with_len}

-- The first number from `start` on that leaves this rest modulo m. Every m-th number leaves it, so m numbers are looked at.
abbrev pub least_from : ℕ → ℕ → ℕ → Option ℕ
least_from start rest m = find (λ a. a % m == rest) (range_with_len start m)

-- a is the least number at or after `start` that leaves this rest modulo m
pub record IsLeastFrom (start rest m a : ℕ) : Type 0 where
  pub from : start ≤ a
  pub has_rest : a % m ≡ rest
  pub least : (b : ℕ) → start ≤ b → b % m ≡ rest → a ≤ b
