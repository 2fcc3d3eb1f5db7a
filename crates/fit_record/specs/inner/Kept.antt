-- What an environment keeps beside its places: how many bytes follow the record header of a data message.
use Rattle.std.specs.Prelude.{◌≡◌, ℕ, ◌≤◌, List, slice_index, slice_index_or, Option, Some, None}
use Rattle.fit_record.specs.declared.environment.Defined.{Defined}
use Rattle.fit_record.specs.Records.{body_length}
use Rattle.fit_record.specs.Sound.{IsSound}
use Rattle.fit_record.specs.Sizes.{body_limit}

-- what holds of a definition in its place, and of the number that is kept with it
pub record IsKept {A : Type 0} (p : Defined A) (n : ℕ) : Type 0 where
  pub sound : IsSound p
  pub total : n ≡ body_length p.definition
  pub small : n ≤ body_limit

-- the same of a place that may be empty
abbrev pub MayBeKept : {A : Type 0} → Option (Defined A) → ℕ → Type 0
MayBeKept None n = Unit {0}
MayBeKept (Some p) n = IsKept p n

-- the same of every place
abbrev pub AreKept : {A : Type 0} → List (Option (Defined A)) → List ℕ → Type 0
AreKept places lengths = (local : ℕ) → MayBeKept (slice_index_or places local None) (slice_index lengths local)
