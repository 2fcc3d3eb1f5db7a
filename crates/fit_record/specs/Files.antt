-- Files, and chains of files (section "FIT File Structure").
use Rattle.std.specs.Prelude.{◌≡◌, ℕ, ◌<◌, ◌≤◌, List, ◌++◌, length, flat_map}
use Rattle.std.specs.List.{AllByRecursion}
use Rattle.fit_base.specs.Numbers.{IsBytes, little_bytes}
use Rattle.fit_sum.specs.Checksum.{checksum}
use Rattle.fit_frame.specs.Header.{HeaderFits, header_bytes}
use Rattle.fit_record.specs.declared.file.FitFile.{FitFile}
use Rattle.fit_record.specs.declared.message.Record.{Record}
use Rattle.fit_record.specs.Environment.{Environment, empty_environment}
use Rattle.fit_record.specs.Records.{AllFit, AreRecords, records_bytes}

-- the data section: the records, of which nothing is known at its start
abbrev pub body : {A : Type 0} → FitFile A → List ℕ
body f = records_bytes empty_environment f.records

-- the header, and the data section
abbrev pub summed : {A : Type 0} → FitFile A → List ℕ
summed f = header_bytes f.header (length (body f)) ++ body f

-- The checksum at the end covers header and data, and has its low byte first (section "CRC").
abbrev pub file_bytes : {A : Type 0} → FitFile A → List ℕ
file_bytes f = summed f ++ little_bytes 2 (checksum (summed f))

-- The header can announce the data section, and each record can be where it is.
pub record IsWellFormed {A : Type 0} (f : FitFile A) : Type 0 where
  pub header : HeaderFits f.header (length (body f))
  pub records : AllFit empty_environment f.records

-- The bytes are those of the file.
abbrev pub IsFile : {A : Type 0} → FitFile A → List ℕ → Type 0
IsFile f bytes = IsWellFormed f × (bytes ≡ file_bytes f)

-- ---- chains

-- the most files that follow one another, 2 ^ 24 - 1: a chain has fewer than 2 ^ 57 bytes
abbrev pub chain_limit : ℕ
chain_limit = 16777215

-- the files, one after another (section "Chained FIT Files")
abbrev pub chain_bytes : {A : Type 0} → List (FitFile A) → List ℕ
chain_bytes fs = flat_map file_bytes fs

-- One file at least, and no more than the limit.
pub record IsWellFormedChain {A : Type 0} (limit : ℕ) (fs : List (FitFile A)) : Type 0 where
  pub some : 0 < length fs
  pub within : length fs ≤ limit
  pub each : AllByRecursion IsWellFormed fs

-- The bytes are those of the files, one after another.
abbrev pub IsChain : {A : Type 0} → ℕ → List (FitFile A) → List ℕ → Type 0
IsChain limit fs bytes = IsWellFormedChain limit fs × (bytes ≡ chain_bytes fs)

-- Some bytes after these make a chain of them, of at most that many files.
abbrev pub IsViable : Type 0 → ℕ → List ℕ → Type 0
IsViable A limit bytes = (more : List ℕ) × (fs : List (FitFile A)) × IsBytes (bytes ++ more) × IsChain limit fs (bytes ++ more)

-- Some records take up just this many bytes.
abbrev pub CanFill : {A : Type 0} → Environment A → ℕ → Type 0
CanFill {A} e room = (records : List (Record A)) × (bytes : List ℕ) × IsBytes bytes × AreRecords e records bytes × (length bytes ≡ room)
