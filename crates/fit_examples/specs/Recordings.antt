-- A ride of times and heart rates as a file.
use Rattle.std.specs.Prelude.{◌≡◌, ℕ, ◌+◌, ◌*◌, ◌^◌, ◌<◌, ◌≤◌, List, [], ◌∷◌, None, map}
use Rattle.std.specs.declared.alloc.Global.{Global}
use Rattle.fit_base.specs.declared.items.Items.{Items}
use Rattle.fit_base.specs.declared.number.Order.TheVariants.{Little}
use Rattle.fit_frame.specs.declared.header.HeaderSum.TheVariants.{True}
use Rattle.fit_record.specs.declared.definition.MessageDef.{MessageDef}
use Rattle.fit_record.specs.declared.message.Record.{Record}
use Rattle.fit_record.specs.declared.message.Record.TheVariants.{Define, Values as Data}
use Rattle.fit_record.specs.declared.file.FitFile.{FitFile}
use Rattle.fit_record.specs.Environment.{empty_environment, learn}
use Rattle.fit_record.specs.Records.{Fits}
use Rattle.fit_record.specs.Files.{IsFile}
use Rattle.fit_encode.specs.declared.fault.EncodeFault.{EncodeFault}
use Rattle.fit_encode.specs.declared.fault.EncodeFault.TheVariants.{NoMemory, TooLong, Write}

-- a record message has two fields: 253, timestamp, a uint32, and 3, heart_rate, a uint8
abbrev pub definition : MessageDef Global
definition = record {
  local = 0;
  reserved = 0;
  order = Little;
  global = 20;
  fields = record { number = 253; size = 4; code = 0x86 } ∷ record { number = 3; size = 1; code = 0x02 } ∷ [];
  dev = None;
}

-- one number of this many bytes
abbrev pub lone : ℕ → ℕ → Items Global
lone width number = record { width = width; bits = number ∷ [] }

-- the record message of a time and a heart rate
abbrev pub ride_message : ℕ × ℕ → Record Global
ride_message point = Data (record { local = 0; offset = None; fields = lone 4 point.0 ∷ lone 1 point.1 ∷ []; dev = [] })

abbrev pub ride_records : List (ℕ × ℕ) → List (Record Global)
ride_records points = Define definition ∷ map ride_message points

-- The bytes are those of a file of protocol 2.0 with a header of 14 bytes and its sum, and these records.
pub record IsRecording (points : List (ℕ × ℕ)) (bytes : List ℕ) : Type 0 where
  pub file : FitFile Global
  pub size : file.header.size ≡ 14
  pub protocol : file.header.protocol ≡ 0x20
  pub profile : file.header.profile ≡ 0
  pub sum : file.header.sum ≡ True
  pub records : file.records ≡ ride_records points
  pub spelled : IsFile file bytes

-- this record fits after the definition message
abbrev pub FitsRide : Record Global → Type 0
FitsRide r = Fits (learn empty_environment (Define definition)) r

-- Why a ride of that many points has no file: after the definition message of 12 bytes, the record message at this index, each having 6,
-- is the first with which the data has 2^32 bytes or more; or an allocation failed, for a record or for the bytes.
abbrev pub IsRideFault : ℕ → EncodeFault → Type 0
IsRideFault points (TooLong file index) = (file ≡ 1) × (index ≤ points) × (2 ^ 32 ≤ 12 + 6 * index) × (6 + 6 * index < 2 ^ 32)
IsRideFault points NoMemory = Unit {0}
IsRideFault points (Write written) = Unit {0}
IsRideFault points _ = ⊥
