-- How many bytes are to come, at least, until a file ends.
use Rattle.std.specs.Prelude.{◌≡◌, ℕ, ◌+◌, ◌-◌, ◌<◌, ◌≤◌, nat_le, nat_lt, if◌then◌else◌, List, [], ◌∷◌, ◌++◌, length, take, drop}
use Rattle.fit_base.specs.Numbers.{little}
use Rattle.fit_record.specs.declared.file.FitFile.{FitFile}
use Rattle.fit_record.specs.Environment.{empty_environment}
use Rattle.fit_record.specs.Records.{records_bytes}
use Rattle.fit_record.specs.Files.{chain_limit, IsChain}
use Rattle.fit_chain.specs.Progress.{Progress, at_header, at_data, HasCome}

-- Before a file: a header of 12 bytes and a closing checksum, or one byte where no file may follow. In a header: the rest of its size
-- and the closing checksum, and from 8 bytes on the data too. After it: the rest of the data, and of the closing checksum.
-- `proofs/HeldRows` computes it for known bytes.
abbrev pub missing : {A : Type 0} → ℕ → Progress A → ℕ
missing files (at_header []) = if nat_lt files chain_limit then 14 else 1
missing files (at_header (size ∷ front)) =
    (size - length (size ∷ front) + 2) + (if nat_le 8 (length (size ∷ front)) then little (take 4 (drop 4 (size ∷ front))) else 0)
missing files (at_data h n records part) = (n + 2) - (length (records_bytes empty_environment records) + length part)

-- That many bytes are missing after these.
pub record Needs (A : Type 0) (bytes : List ℕ) (n : ℕ) : Type 0 where
  pub files : List (FitFile A)
  pub progress : Progress A
  pub come : HasCome files progress bytes
  pub is : n ≡ missing (length files) progress

-- A chain that begins with these bytes, and has one more file at least than have ended in them, goes on for that many bytes.
-- That this is so of what is needed is the law `files_end_no_sooner`.
abbrev pub NoFileEndsBefore : Type 0 → List ℕ → ℕ → Type 0
NoFileEndsBefore A bytes n = (files others : List (FitFile A)) (progress : Progress A) (more : List ℕ)
    → HasCome files progress bytes → IsChain chain_limit others (bytes ++ more) → length files < length others → n ≤ length more
