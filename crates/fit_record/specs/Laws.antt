-- What holds of records, files and chains of files.
use Rattle.std.specs.Prelude.{◌≡◌, ◌↔◌, ℕ, List, [], ◌∷◌, ◌++◌, None}
use Rattle.fit_record.specs.declared.file.FitFile.{FitFile}
use Rattle.fit_record.specs.declared.message.Record.{Record}
use Rattle.fit_record.specs.Environment.{Environment}
use Rattle.fit_record.specs.Faults.{first_fault, HasRange}
use Rattle.fit_record.specs.Files.{IsChain, IsFile}
use Rattle.fit_record.specs.Records.{Fits, IsRecord}

-- Where one environment is known, a record and its bytes determine each other, and no record's bytes begin another's.
abbrev pub RecordsHaveOneSpelling : Type 0 → Type 0
RecordsHaveOneSpelling A = (e : Environment A) (r s : Record A) (a b x y : List ℕ) → IsRecord e r a → IsRecord e s b → a ++ x ≡ b ++ y → (r ≡ s) × (a ≡ b)

-- A record fits just where it has no fault, its numbers being in their ranges.
abbrev pub FaultsAreExact : Type 0 → Type 0
FaultsAreExact A = (e : Environment A) (r : Record A) → Fits e r ↔ ((first_fault e r ≡ None) × HasRange r)

-- A file and its bytes determine each other, and no file's bytes begin another's.
abbrev pub FilesHaveOneSpelling : Type 0 → Type 0
FilesHaveOneSpelling A = (f g : FitFile A) (a b x y : List ℕ) → IsFile f a → IsFile g b → a ++ x ≡ b ++ y → (f ≡ g) × (a ≡ b)

-- A chain of at most one file is a file.
abbrev pub ChainOfOne : Type 0 → Type 0
ChainOfOne A = (fs : List (FitFile A)) (bytes : List ℕ) → IsChain 1 fs bytes ↔ ((f : FitFile A) × (fs ≡ f ∷ []) × IsFile f bytes)
