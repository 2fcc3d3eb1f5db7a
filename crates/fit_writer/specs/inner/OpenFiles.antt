-- Files that have begun, as the code keeps them. No public contract names these.
use Rattle.std.specs.Prelude.{◌≡◌, ◌⊎◌, ◌+◌, ◌<◌, ◌≤◌, ◌^◌, ℕ, Bool, true, if◌then◌else◌, List, length, reverse, Some, None}
use Rattle.std.specs.Global.{Global}
use Rattle.fit_frame.specs.Header.{FormFits}
use Rattle.fit_record.specs.declared.file.FitFile.{FitFile}
use Rattle.fit_record.specs.declared.definition.MessageDef.{MessageDef}
use Rattle.fit_record.specs.declared.message.Record.{Record}
use Rattle.fit_record.specs.Environment.{empty_environment}
use Rattle.fit_record.specs.Files.{chain_limit}
use Rattle.fit_record.specs.Records.{AllFit, records_bytes}
use Rattle.fit_writer.specs.Amounts.{amounts_in, latest_amounts}
use Rattle.fit_writer.specs.Written.{Current, PutsDefining, Writing, data_length}
use Rattle.fit_writer.specs.declared.file.OpenFile.{OpenFile}
use Rattle.fit_writer.specs.inner.Indices.{AreIndices}
use Rattle.fit_writer.specs.declared.refusal.Refusal.{Refusal}
use Rattle.fit_writer.specs.declared.refusal.Refusal.TheVariants.{NoMemory, TooLong}

-- what has been written of it
abbrev pub current_of : OpenFile → Current
current_of f = record { header = f.header; records = f.stream }

-- the same with these records
abbrev pub current_with : OpenFile → List (Record Global) → Current
current_with f records = record { header = f.header; records = records }

abbrev pub writing_of : List (FitFile Global) → Bool → OpenFile → Writing
writing_of files is_open file = record { files = files; current = if is_open then Some (current_of file) else None }

-- The bytes are those of the records that a reader would have, and they aren't too many.
pub record AreData (section : List ℕ) (stream : List (Record Global)) : Type 0 where
  pub data_are : section ≡ records_bytes empty_environment (reverse stream)
  pub short : length section < 2 ^ 32
  pub fit : AllFit empty_environment (reverse stream)

pub record IsGoodOpenFile (f : OpenFile) : Type 0 where
  pub form : FormFits f.header
  pub are_data : AreData f.data.items f.stream
  pub told : amounts_in f.told ≡ latest_amounts f.stream
  pub are_indices : AreIndices f.indices f.stream

pub record IsGoodWriter (files : List (FitFile Global)) (is_open : Bool) (file : OpenFile) : Type 0 where
  pub few : length files + (if is_open then 1 else 0) ≤ chain_limit
  pub good : is_open ≡ true → IsGoodOpenFile file

-- Records aren't put: they would be too long, or memory was refused.
abbrev pub IsUnput : List (Record Global) → Refusal → Type 0
IsUnput after TooLong = 2 ^ 32 ≤ data_length after
IsUnput after NoMemory = Unit {0}
IsUnput after _ = ⊥

-- Nothing has changed; or memory was refused where there were records that may be.
abbrev pub IsHalf : OpenFile → OpenFile → (List (Record Global) → Type 0) → Refusal → Type 0
IsHalf old new may NoMemory = (current_of new ≡ current_of old) ⊎ ((after : List (Record Global)) × may after × (current_of new ≡ current_with old after))
IsHalf old new may _ = current_of new ≡ current_of old

-- those with this definition message, for some local message type
abbrev pub IsHalfPut : OpenFile → OpenFile → MessageDef Global → Refusal → Type 0
IsHalfPut old new d = IsHalf old new (λ after. PutsDefining old.stream after d)
