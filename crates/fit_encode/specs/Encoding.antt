-- What an encoder has written, and why its calls are refused.
use Rattle.std.specs.Prelude.{◌≡◌, ℕ, ◌+◌, ◌<◌, ◌≤◌, if◌then◌else◌, Bool, false, List, [], ◌++◌, length, Option, Some, None, option_map}
use Rattle.std.specs.Global.{Global}
use Rattle.fit_base.specs.Numbers.{little_bytes}
use Rattle.fit_sum.specs.Checksum.{checksum}
use Rattle.fit_frame.specs.declared.header.Header.{Header}
use Rattle.fit_frame.specs.Header.{FormFits, IsHeader, header_bytes, ZeroIsSum as SumIsZero}
use Rattle.fit_record.specs.declared.file.FitFile.{FitFile}
use Rattle.fit_record.specs.declared.message.Record.{Record}
use Rattle.fit_record.specs.declared.fits.ShapeFault.TheVariants.{BadLocal as NoLocal, BadOffset as NoOffset, UndefinedLocal as NotDefined}
use Rattle.fit_record.specs.declared.fits.ShapeFault.TheVariants.{WrongShape as WrongField}
use Rattle.fit_record.specs.Environment.{Environment, empty_environment, learn_all}
use Rattle.fit_record.specs.Records.{Fits, record_bytes, records_bytes}
use Rattle.fit_record.specs.Files.{IsFile}
use Rattle.fit_record.specs.Faults.{first_fault}
use Rattle.fit_encode.specs.declared.fault.EncodeFault.{EncodeFault}
use Rattle.fit_encode.specs.declared.fault.EncodeFault.TheVariants.{BadHeader, ZeroIsSum, BadLocal, BadOffset, UndefinedLocal, WrongShape, DeclaredLength}
use Rattle.fit_encode.specs.declared.fault.EncodeFault.TheVariants.{NoMemory, Write}
use Rattle.fit_encode.specs.Faults.{StopsAt}

-- The bytes of the header, the length of the data that it declares, the records put so far, how many bytes of the file
-- had gone out when a sink failed, and whether the file is finished.
pub record Encoding (A : Type 0) : Type 0 where
  pub head : List ℕ
  pub declared : ℕ
  pub records : List (Record A)
  pub failed : Option ℕ
  pub finished : Bool

-- after the header
abbrev pub header_sent : {A : Type 0} → Header → ℕ → Encoding A
header_sent h n = record { head = header_bytes h n; declared = n; records = []; failed = None; finished = false }

-- what the records put so far make known
abbrev pub learned : {A : Type 0} → Encoding A → Environment A
learned e = learn_all empty_environment e.records

-- the bytes of the records put so far
abbrev pub data_so_far : {A : Type 0} → Encoding A → List ℕ
data_so_far e = records_bytes empty_environment e.records

-- the header, and these
abbrev pub bytes_so_far : {A : Type 0} → Encoding A → List ℕ
bytes_so_far e = e.head ++ data_so_far e

-- their checksum, low byte first
abbrev pub closing_bytes : {A : Type 0} → Encoding A → List ℕ
closing_bytes e = little_bytes 2 (checksum (bytes_so_far e))

-- With the closing bytes it is the file of the header and the records. There is such a header: `begin` starts with the bytes
-- of one.
abbrev pub IsWhole : {A : Type 0} → Encoding A → Type 0
IsWhole {A} e = (h : Header) → IsHeader h e.declared e.head → IsFile {A = A} (record { header = h; records = e.records }) (bytes_so_far e ++ closing_bytes e)

-- ---- files from their records

abbrev pub file_of : Header → List (Record Global) → FitFile Global
file_of header records = record { header = header; records = records }

-- ---- faults

-- the header has no bytes
abbrev pub IsHeaderFault : Header → ℕ → EncodeFault → Type 0
IsHeaderFault h n (BadHeader file) = (file ≡ 1) × (FormFits h → ⊥)
IsHeaderFault h n (ZeroIsSum file) = (file ≡ 1) × FormFits h × SumIsZero h n
IsHeaderFault h n _ = ⊥

-- why every call is refused: the file is finished, or a sink failed
abbrev pub fault_when : Bool → Option ℕ → Option EncodeFault
fault_when finished failed = if finished then Some DeclaredLength else option_map Write failed

abbrev pub closed_fault : {A : Type 0} → Encoding A → Option EncodeFault
closed_fault e = fault_when e.finished e.failed

-- Where this is known, the record can stand after that many bytes, and keeps within the declared length.
pub record HasPlace {A : Type 0} (e : Environment A) (declared size : ℕ) (r : Record A) : Type 0 where
  pub fits : Fits e r
  pub within : size + length (record_bytes e r) ≤ declared

-- Why it can't be put there, after that many records: its shape, or the declared length, or else want of memory.
abbrev pub IsPlaceFault : {A : Type 0} → Environment A → ℕ → ℕ → ℕ → Record A → EncodeFault → Type 0
IsPlaceFault e count declared size r (BadLocal file index) = (file ≡ 1) × (index ≡ count) × (first_fault e r ≡ Some NoLocal)
IsPlaceFault e count declared size r (BadOffset file index) = (file ≡ 1) × (index ≡ count) × (first_fault e r ≡ Some NoOffset)
IsPlaceFault e count declared size r (UndefinedLocal file index) = (file ≡ 1) × (index ≡ count) × (first_fault e r ≡ Some NotDefined)
IsPlaceFault e count declared size r (WrongShape file index field) =
    (file ≡ 1) × (index ≡ count) × (first_fault e r ≡ Some (WrongField field))
IsPlaceFault e count declared size r DeclaredLength = Fits e r × (declared < size + length (record_bytes e r))
IsPlaceFault e count declared size r NoMemory = HasPlace e declared size r
IsPlaceFault e count declared size r _ = ⊥

-- the record can be put next
abbrev pub CanPut : {A : Type 0} → Encoding A → Record A → Type 0
CanPut e r = HasPlace (learned e) e.declared (length (data_so_far e)) r

-- why it can't
abbrev pub IsPutFault : {A : Type 0} → Encoding A → Record A → EncodeFault → Type 0
IsPutFault e r fault = IsPlaceFault (learned e) (length e.records) e.declared (length (data_so_far e)) r fault

-- all data is there
abbrev pub IsComplete : {A : Type 0} → Encoding A → Type 0
IsComplete e = length (data_so_far e) ≡ e.declared

-- data is missing
abbrev pub IsFinishFault : {A : Type 0} → Encoding A → EncodeFault → Type 0
IsFinishFault e fault = (fault ≡ DeclaredLength) × (length (data_so_far e) < e.declared)

-- The sink failed after some of these bytes, from the front, and after that many of the file. That number is kept.
pub record BreaksOff {A : Type 0} (before after : Option (List ℕ)) (failed : Bool) (old new : Encoding A) (bytes : List ℕ) (written : ℕ) : Type 0 where
  pub sent : ℕ
  pub stops : StopsAt before after failed bytes sent
  pub total : written ≡ length (bytes_so_far old) + sent
  pub latched : new ≡ record old { failed = Some written }
