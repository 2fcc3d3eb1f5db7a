-- Why files can't be written: the first reason. The number of files comes first. Then each file is looked at in its turn:
-- its header, its records in their order, and last the zeros for a sum of 0. Laws say that files have one such fault at most
-- (`faults_are_one`), none where they can be written (`good_chains_have_no_fault`), and one where they can't
-- (`bad_chains_have_a_fault`).
use Rattle.std.specs.Prelude.{◌≡◌, ℕ, ◌+◌, ◌<◌, ◌≤◌, ◌^◌, List, ◌∷◌, ◌++◌, length, take, Bool, true, Option, Some}
use Rattle.std.specs.Io.KnownBytes.{Appends}
use Rattle.std.specs.List.{AllByRecursion}
use Rattle.fit_frame.specs.Header.{FormFits, ZeroIsSum as SumIsZero}
use Rattle.fit_record.specs.declared.file.FitFile.{FitFile}
use Rattle.fit_record.specs.declared.message.Record.{Record}
use Rattle.fit_record.specs.declared.fits.ShapeFault.{ShapeFault}
use Rattle.fit_record.specs.declared.fits.ShapeFault.TheVariants.{BadLocal as NoLocal, BadOffset as NoOffset, UndefinedLocal as NotDefined}
use Rattle.fit_record.specs.declared.fits.ShapeFault.TheVariants.{WrongShape as WrongField}
use Rattle.fit_record.specs.Environment.{Environment, empty_environment, learn_all}
use Rattle.fit_record.specs.Records.{Fits, AllFit, record_bytes, records_bytes}
use Rattle.fit_record.specs.Files.{IsWellFormed, body, chain_limit}
use Rattle.fit_record.specs.Faults.{first_fault}
use Rattle.fit_encode.specs.declared.fault.EncodeFault.{EncodeFault}
use Rattle.fit_encode.specs.declared.fault.EncodeFault.TheVariants.{BadHeader, ZeroIsSum, BadLocal, BadOffset, UndefinedLocal, WrongShape, TooLong, ChainLength}
use Rattle.fit_encode.specs.declared.fault.EncodeFault.TheVariants.{NoMemory, Write}

-- the fault of the record at a place of a file
abbrev pub shape_fault : ℕ → ℕ → ShapeFault → EncodeFault
shape_fault file index NoLocal = BadLocal file index
shape_fault file index NoOffset = BadOffset file index
shape_fault file index NotDefined = UndefinedLocal file index
shape_fault file index (WrongField field) = WrongShape file index field

-- A record of the list, of which something holds: its index is how many records stand before it. P speaks of what these
-- make known, of how many bytes they have, and of the record. They fit, and their bytes are not too many, so none of them is
-- at fault, and this record is the first.
pub record AtRecord {A : Type 0} (records : List (Record A)) (index : ℕ) (P : Environment A → ℕ → Record A → Type 0) : Type 0 where
  pub front : List (Record A)
  pub this : Record A
  pub back : List (Record A)
  pub joined : records ≡ front ++ this ∷ back
  pub place : index ≡ length front
  pub fit : AllFit empty_environment front
  pub short : length (records_bytes empty_environment front) < 2 ^ 32
  pub holds : P (learn_all empty_environment front) (length (records_bytes empty_environment front)) this

-- the first record that can't stand in a data section of at most 2^32 - 1 bytes
abbrev pub IsRecordFault : {A : Type 0} → ℕ → List (Record A) → EncodeFault → Type 0
IsRecordFault number records (BadLocal file index) = (file ≡ number) × AtRecord records index (λ e n r. first_fault e r ≡ Some NoLocal)
IsRecordFault number records (BadOffset file index) = (file ≡ number) × AtRecord records index (λ e n r. first_fault e r ≡ Some NoOffset)
IsRecordFault number records (UndefinedLocal file index) = (file ≡ number) × AtRecord records index (λ e n r. first_fault e r ≡ Some NotDefined)
IsRecordFault number records (WrongShape file index field) =
    (file ≡ number) × AtRecord records index (λ e n r. first_fault e r ≡ Some (WrongField field))
IsRecordFault number records (TooLong file index) =
    (file ≡ number) × AtRecord records index (λ e n r. Fits e r × (2 ^ 32 ≤ n + length (record_bytes e r)))
IsRecordFault number records _ = ⊥

-- Why the file of this number can't be written: first its header, then its records, and last the zeros for a sum of 0.
abbrev pub IsFileFault : {A : Type 0} → ℕ → FitFile A → EncodeFault → Type 0
IsFileFault number f (BadHeader file) = (file ≡ number) × (FormFits f.header → ⊥)
IsFileFault number f (ZeroIsSum file) =
    (file ≡ number) × FormFits f.header × AllFit empty_environment f.records × (length (body f) < 2 ^ 32) × SumIsZero f.header (length (body f))
IsFileFault number f fault = FormFits f.header × IsRecordFault number f.records fault

-- that many files may follow one another
abbrev pub IsChainLength : ℕ → Type 0
IsChainLength n = (0 < n) × (n ≤ chain_limit)

-- A file of the list, of which something holds: its number is how many files stand before it, and one. Those can be written,
-- so none of them is at fault, and this file is the first.
pub record AtFile {A : Type 0} (fs : List (FitFile A)) (P : ℕ → FitFile A → Type 0) : Type 0 where
  pub front : List (FitFile A)
  pub this : FitFile A
  pub back : List (FitFile A)
  pub joined : fs ≡ front ++ this ∷ back
  pub good : AllByRecursion IsWellFormed front
  pub holds : P (length front + 1) this

-- why these files can't be written as a chain
abbrev pub IsFirstFault : {A : Type 0} → List (FitFile A) → EncodeFault → Type 0
IsFirstFault fs ChainLength = IsChainLength (length fs) → ⊥
IsFirstFault fs fault = IsChainLength (length fs) × AtFile fs (λ number f. IsFileFault number f fault)

-- The sink failed when it had taken just the first bytes, that many of them, and not all.
pub record StopsAt (before after : Option (List ℕ)) (failed : Bool) (bytes : List ℕ) (written : ℕ) : Type 0 where
  pub part : written < length bytes
  pub first : Appends before after (take written bytes)
  pub stopped : failed ≡ true

-- ---- what holds by the kind of fault

-- of the number of bytes that went out before a sink failed
abbrev pub IfWrite : EncodeFault → (ℕ → Type 0) → Type 0
IfWrite (Write written) P = P written
IfWrite _ P = Unit {0}

-- of every other fault
abbrev pub UnlessWrite : EncodeFault → Type 0 → Type 0
UnlessWrite (Write written) P = Unit {0}
UnlessWrite _ P = P

-- of every fault but these two
abbrev pub IfRefused : EncodeFault → Type 0 → Type 0
IfRefused (Write written) P = Unit {0}
IfRefused NoMemory P = Unit {0}
IfRefused _ P = P
