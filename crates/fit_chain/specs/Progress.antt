-- How far the bytes of a chain have come: which files are whole, and what there is of the next one.
use Rattle.std.specs.Prelude.{◌≡◌, ℕ, zero, suc, ◌-◌, ◌<◌, ◌≤◌, List, ◌++◌, length, take}
use Rattle.std.specs.List.{AllByRecursion}
use Rattle.fit_frame.specs.declared.header.Header.{Header}
use Rattle.fit_frame.specs.Header.{HeaderFits, IsHeader, header_bytes}
use Rattle.fit_record.specs.declared.file.FitFile.{FitFile}
use Rattle.fit_record.specs.declared.message.Record.{Record}
use Rattle.fit_record.specs.Environment.{Environment, empty_environment, learn_all}
use Rattle.fit_record.specs.Records.{AllFit, records_bytes, IsRecord}
use Rattle.fit_record.specs.Files.{IsWellFormed, chain_bytes}

-- What there is of a file that isn't whole.
pub data Progress (A : Type 0) : Type 0 where
  -- some bytes of a header, and not all
  at_header : List ℕ → Progress A
  -- a header, the size of the data section, the whole records, and some bytes of the next record or of the closing checksum
  at_data : Header → ℕ → List (Record A) → List ℕ → Progress A

abbrev pub progress_bytes : {A : Type 0} → Progress A → List ℕ
progress_bytes (at_header front) = front
progress_bytes (at_data h n records part) = header_bytes h n ++ records_bytes empty_environment records ++ part

-- No record begins the bytes, or after the last record the closing checksum isn't whole.
abbrev pub IsPartial : {A : Type 0} → Environment A → ℕ → List ℕ → Type 0
IsPartial e zero part = length part < 2
IsPartial {A} e (suc room) part = (r : Record A) (k : ℕ) → IsRecord e r (take k part) → ⊥

-- There is no more of the file than that, and all of it that is whole.
abbrev pub IsUnfinished : {A : Type 0} → Progress A → Type 0
IsUnfinished (at_header front) = (h : Header) (n k : ℕ) → IsHeader h n (take k front) → ⊥
IsUnfinished (at_data h n records part) =
    HeaderFits h n × AllFit empty_environment records
    × (length (records_bytes empty_environment records) ≤ n)
    × IsPartial (learn_all empty_environment records) (n - length (records_bytes empty_environment records)) part

-- The bytes are those of whole files, and of as much of a next file as g says. By the law `progress_is_one` bytes come to one such place.
pub record HasCome {A : Type 0} (fs : List (FitFile A)) (g : Progress A) (bytes : List ℕ) : Type 0 where
  pub files : AllByRecursion IsWellFormed fs
  pub next : IsUnfinished g
  pub spelled : bytes ≡ chain_bytes fs ++ progress_bytes g
