-- Laws of looking back over records.
use Rattle.std.specs.Prelude.{◌≡◌, ◌<◌, ℕ, List, reverse, IsSomeAnd}
use Rattle.fit_record.specs.declared.message.Record.{Record}
use Rattle.fit_record.specs.Environment.{empty_environment, learn_all}
use Rattle.fit_profile.specs.Least.{least_from, IsLeastFrom}
use Rattle.fit_profile.specs.Looks.{known}

-- The first number that leaves a rest is the least one: header times and accumulated values are the least numbers at or after the previous ones.
abbrev pub FirstIsLeast : Type 0
FirstIsLeast = (start rest m : ℕ) → rest < m → IsSomeAnd (least_from start rest m) (IsLeastFrom start rest m)

-- looking back over records is learning them in their order
abbrev pub LookingBackIsLearning : Type 0 → Type 0
LookingBackIsLearning A = (records : List (Record A)) → known (reverse records) ≡ learn_all empty_environment records
