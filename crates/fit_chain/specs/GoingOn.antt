-- Whether what there is of a file can still become a file.
use Rattle.std.specs.Prelude.{◌≡◌, ℕ, zero, suc, ◌+◌, ◌-◌, ◌<◌, ◌≤◌, List, [], ◌∷◌, ◌++◌, length}
use Rattle.fit_base.specs.Numbers.{little_bytes}
use Rattle.fit_sum.specs.Checksum.{checksum}
use Rattle.fit_frame.specs.Header.{header_bytes}
use Rattle.fit_frame.specs.Beginning.{BeginsHeader}
use Rattle.fit_record.specs.declared.file.FitFile.{FitFile}
use Rattle.fit_record.specs.Environment.{Environment, empty_environment, learn_all}
use Rattle.fit_record.specs.Records.{records_bytes}
use Rattle.fit_step.specs.InProgress.{FillFrom}
use Rattle.fit_chain.specs.Progress.{Progress, at_header, at_data}

-- After the header and the records that are whole: while data is to come, records go on with the part and fill the room; after
-- the data the part begins the closing checksum.
abbrev pub DataGoesOn : {A : Type 0} → Environment A → ℕ → List ℕ → List ℕ → Type 0
DataGoesOn e zero sum part = (rest : List ℕ) × (sum ≡ part ++ rest)
DataGoesOn e (suc room) sum part = FillFrom e (suc room) part

-- Some more bytes make a file of it.
abbrev pub GoesOn : {A : Type 0} → Progress A → Type 0
GoesOn (at_header front) = BeginsHeader front
GoesOn (at_data h n records part) =
    DataGoesOn (learn_all empty_environment records) (n - length (records_bytes empty_environment records))
    (little_bytes 2 (checksum (header_bytes h n ++ records_bytes empty_environment records))) part

-- the files that have begun
abbrev pub files_begun : {A : Type 0} → List (FitFile A) → Progress A → ℕ
files_begun files (at_header []) = length files
files_begun files (at_header (b ∷ front)) = length files + 1
files_begun files (at_data h n records part) = length files + 1

-- A chain of at most that many files can begin with these files and this much of the next one.
abbrev pub ChainGoesOn : {A : Type 0} → ℕ → List (FitFile A) → Progress A → Type 0
ChainGoesOn limit files g = (0 < limit) × (files_begun files g ≤ limit) × GoesOn g
