-- Where a byte is refused, and why.
use Rattle.std.specs.Prelude.{◌≡◌, ℕ, ◌-◌, ◌==◌, if◌then◌else◌, List, [], ◌∷◌, ◌++◌, length, Option, Some}
use Rattle.fit_frame.specs.declared.reason.Reason.{Reason}
use Rattle.fit_frame.specs.declared.reason.Reason.TheVariants.{FileSum, TooManyFiles}
use Rattle.fit_frame.specs.Beginning.{header_reason}
use Rattle.fit_record.specs.declared.file.FitFile.{FitFile}
use Rattle.fit_record.specs.Environment.{empty_environment, learn_all}
use Rattle.fit_record.specs.Records.{records_bytes}
use Rattle.fit_record.specs.Files.{IsViable}
use Rattle.fit_step.specs.Reasons.{record_reason}
use Rattle.fit_chain.specs.Progress.{Progress, at_header, at_data, HasCome}

-- By the place of the byte: in the file header, in a record, or in the closing checksum.
abbrev pub reason_in_file : {A : Type 0} → Progress A → ℕ → Option Reason
reason_in_file (at_header front) b = Some (header_reason (length front))
reason_in_file (at_data h n records part) b =
    let taken = length (records_bytes empty_environment records) in
    if n == taken then Some FileSum
    else record_reason (learn_all empty_environment records) part (n - taken - length part) b

-- After that many whole files, where there may be at most `limit`. `proofs/KnownRefusals` computes it for known bytes, each kind of byte of a
-- definition message among them. With the laws `reasons_are_one` and `refused_bytes_have_reasons` each refused byte has just one.
abbrev pub reason_at : {A : Type 0} → ℕ → ℕ → Progress A → ℕ → Option Reason
reason_at limit files g b = if files == limit then Some TooManyFiles else reason_in_file g b

-- A chain of at most that many files begins with the bytes, none with the byte after them, and this is the reason.
pub record IsRefused (A : Type 0) (limit : ℕ) (bytes : List ℕ) (b : ℕ) (reason : Reason) : Type 0 where
  pub viable : IsViable A limit bytes
  pub refused : IsViable A limit (bytes ++ b ∷ []) → ⊥
  pub files : List (FitFile A)
  pub progress : Progress A
  pub come : HasCome files progress bytes
  pub because : reason_at limit (length files) progress b ≡ Some reason
