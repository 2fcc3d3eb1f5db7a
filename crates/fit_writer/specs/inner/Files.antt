-- Files that are whole, as the code keeps them. No public contract names these.
use Rattle.std.specs.Prelude.{◌≡◌, ◌≤◌, ℕ, List, [], ◌∷◌, ◌++◌, length, reverse}
use Rattle.std.specs.Global.{Global}
use Rattle.std.specs.List.{AllByRecursion}
use Rattle.fit_frame.specs.declared.header.Header.{Header}
use Rattle.fit_record.specs.declared.file.FitFile.{FitFile}
use Rattle.fit_record.specs.declared.message.Record.{Record}
use Rattle.fit_record.specs.Files.{IsWellFormed, chain_bytes, chain_limit}
use Rattle.fit_encode.specs.Encoding.{file_of}
use Rattle.fit_writer.specs.Written.{IsLastHeader, data_length}

-- The bytes are those of the files, which can be written.
pub record AreWholeFiles (bytes : List ℕ) (count : ℕ) (files : List (FitFile Global)) : Type 0 where
  pub bytes_are : bytes ≡ chain_bytes files
  pub each : AllByRecursion IsWellFormed files
  pub counted : count ≡ length files
  pub few : count ≤ chain_limit

-- one file more, of this header but for zeros that would stand for a sum of 0, and of these records, the latest first
abbrev pub IsNextFile : List (FitFile Global) → List (FitFile Global) → Header → List (Record Global) → Type 0
IsNextFile old new header records =
    (last : Header) × IsLastHeader (data_length records) header last × (new ≡ old ++ file_of last (reverse records) ∷ [])
