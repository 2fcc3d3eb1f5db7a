-- What there is of a next file, after whole files.
use Rattle.std.specs.Prelude.{◌≡◌, ℕ, ◌≤◌, List, [], ◌∷◌, ◌++◌, Option, Some, None, length}
use Rattle.fit_frame.specs.declared.header.Header.{Header}
use Rattle.fit_record.specs.declared.file.FitFile.{FitFile}
use Rattle.fit_record.specs.declared.message.Record.{Record}
use Rattle.fit_chain.specs.Progress.{Progress, at_header, at_data, HasCome}

abbrev pub progress_header : {A : Type 0} → Progress A → Option Header
progress_header (at_header front) = None
progress_header (at_data h n records part) = Some h

abbrev pub progress_records : {A : Type 0} → Progress A → List (Record A)
progress_records (at_header front) = []
progress_records (at_data h n records part) = records

-- The bytes are those of the files and of some of the next one, of which the header, if it is whole, and the whole records are these.
pub record ComesToRecords {A : Type 0} (files : List (FitFile A)) (head : Option Header) (records : List (Record A)) (bytes : List ℕ) : Type 0 where
  pub progress : Progress A
  pub come : HasCome files progress bytes
  pub head_is : progress_header progress ≡ head
  pub records_are : progress_records progress ≡ records

-- The bytes are those of the files and of some of the next one.
abbrev pub ComesTo : {A : Type 0} → List (FitFile A) → List ℕ → Type 0
ComesTo {A} files bytes = (g : Progress A) × HasCome files g bytes

-- The bytes are those of the files and of one file more.
abbrev pub Ended : {A : Type 0} → List (FitFile A) → FitFile A → List ℕ → Type 0
Ended files f bytes = HasCome (files ++ f ∷ []) (at_header []) bytes

-- No file ends with fewer bytes after these.
abbrev pub NoSooner : {A : Type 0} → List (FitFile A) → List ℕ → ℕ → Type 0
NoSooner {A} files bytes n = (f : FitFile A) (more : List ℕ) → Ended files f (bytes ++ more) → n ≤ length more
