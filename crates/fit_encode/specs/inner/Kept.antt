-- Records and files that are kept as their bytes.
use Rattle.std.specs.Prelude.{◌≡◌, ℕ, ◌+◌, ◌*◌, ◌-◌, ◌<◌, ◌≤◌, ◌^◌, ◌++◌, Bool, true, false, List, Option, Some, None, length, min}
use Rattle.std.specs.List.{AllByRecursion}
use Rattle.std.specs.Global.{Global}
use Rattle.fit_base.specs.Numbers.{little_bytes}
use Rattle.fit_sum.specs.Checksum.{checksum}
use Rattle.fit_record.specs.declared.file.FitFile.{FitFile}
use Rattle.fit_record.specs.declared.message.Record.{Record}
use Rattle.fit_record.specs.Environment.{empty_environment}
use Rattle.fit_record.specs.Files.{IsWellFormed, chain_bytes}
use Rattle.fit_record.specs.Records.{Fits, AllFit, record_bytes, records_bytes}
use Rattle.fit_encode.specs.Faults.{AtFile, AtRecord, IsFileFault}
use Rattle.fit_encode.specs.declared.fault.EncodeFault.{EncodeFault}

-- The bytes are those of all records.
pub record AreAll (bytes : List ℕ) (count : ℕ) (records : List (Record Global)) : Type 0 where
  pub bytes_are : bytes ≡ records_bytes empty_environment records
  pub short : length bytes < 2 ^ 32
  pub place : count ≡ length records
  pub few : length records ≤ length bytes

-- With the record at this place they are too many for a data section, and before it they aren't.
abbrev pub AreTooLong : ℕ → List (Record Global) → Type 0
AreTooLong count records = AtRecord records count (λ e n r. Fits e r × (2 ^ 32 ≤ n + length (record_bytes e r)))

pub record AreSpelled (bytes : List ℕ) (count : ℕ) (too_long : Bool) (records : List (Record Global)) : Type 0 where
  pub fit : AllFit empty_environment records
  pub all : too_long ≡ false → AreAll bytes count records
  pub long : too_long ≡ true → AreTooLong count records

-- ---- files

-- the bytes, and their checksum
abbrev pub with_sum : List ℕ → List ℕ
with_sum bytes = bytes ++ little_bytes 2 (checksum bytes)

-- All files can be written, and the bytes are those of all.
pub record AreWritten (bytes : List ℕ) (files : List (FitFile Global)) : Type 0 where
  pub good : AllByRecursion IsWellFormed files
  pub bytes_are : bytes ≡ chain_bytes files
  pub few : 2 * length files ≤ length bytes
  pub short : length bytes < 2 ^ 64

-- That, or the first that can't be written has this fault.
abbrev pub AreWrittenUnless : Option EncodeFault → List ℕ → List (FitFile Global) → Type 0
AreWrittenUnless None bytes files = AreWritten bytes files
AreWrittenUnless (Some fault) bytes files = AtFile files (λ number f. IsFileFault number f fault)

pub record AreFilesKept (bytes : List ℕ) (count : ℕ) (fault : Option EncodeFault) (files : List (FitFile Global)) : Type 0 where
  pub counted : count ≡ min (length files) (2 ^ 64 - 1)
  pub written : AreWrittenUnless fault bytes files
