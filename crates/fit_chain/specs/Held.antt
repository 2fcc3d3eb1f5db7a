-- How much a decoder keeps.
use Rattle.std.specs.Prelude.{◌≡◌, ℕ, ◌+◌, ◌*◌, ◌≤◌, ◌==◌, if◌then◌else◌, List, [], length}
use Rattle.fit_record.specs.declared.file.FitFile.{FitFile}
use Rattle.fit_record.specs.Environment.{empty_environment, learn_all}
use Rattle.fit_record.specs.Records.{records_bytes}
use Rattle.fit_record.specs.Sizes.{environment_size}
use Rattle.fit_step.specs.Held.{held_of_record}
use Rattle.fit_chain.specs.Progress.{Progress, at_header, at_data, HasCome}
use Rattle.fit_chain.specs.Events.{bound}

-- No record is in progress, and the closing checksum hasn't begun.
abbrev pub IsIdle : {A : Type 0} → Progress A → Type 0
IsIdle (at_header front) = Unit {0}
IsIdle (at_data h n records part) = part ≡ []

-- What the records have defined and described, and the record in progress; after the data the bytes are those of the closing checksum.
-- `proofs/HeldRows` computes it for known bytes.
abbrev pub held_after : {A : Type 0} → Progress A → ℕ
held_after (at_header front) = 0
held_after (at_data h n records part) =
    let e = learn_all empty_environment records in
    environment_size e + (if length (records_bytes empty_environment records) == n then 0 else held_of_record e part)

-- That many entries, described developer fields and items are kept after these bytes: no more than the bound, and where no
-- record is in progress just that many.
pub record IsHeld (A : Type 0) (bytes : List ℕ) (count : ℕ) : Type 0 where
  pub files : List (FitFile A)
  pub progress : Progress A
  pub come : HasCome files progress bytes
  pub is : count ≡ held_after progress
  pub within : count ≤ bound progress
  pub all : IsIdle progress → count ≡ bound progress

-- Sixteen definitions of 255 fields and 255 developer fields, a description for each index and number, and one record with
-- as many entries and an item for each of its bytes.
abbrev pub bound_limit : ℕ
bound_limit = 16 * 510 + 65536 + 130050 + 510
