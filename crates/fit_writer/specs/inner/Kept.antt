-- The definition whose messages were put last, as the code keeps it. No public contract names these.
use Rattle.std.specs.Prelude.{◌≡◌, ◌⊎◌, ℕ, true, List, length, Option, Some, None, IfSome}
use Rattle.std.specs.List.{list_all}
use Rattle.fit_record.specs.Environment.{dev_defs}
use Rattle.fit_record.specs.Records.{DefinitionFits}
use Rattle.fit_from_messages.specs.Alone.{codes_in, lone_layout, why_no_lone_definition}
use Rattle.fit_from_messages.specs.Parts.{definition_in, dev_entries, entries_of, entry_stands, slots_in}
use Rattle.fit_from_messages.specs.Slots.{SlotsFit}
use Rattle.fit_writer.specs.Amounts.{has_amounts}
use Rattle.fit_writer.specs.Reading.{form_in}
use Rattle.fit_writer.specs.Runs.{IsRunBarred}
use Rattle.fit_writer.specs.declared.file.OpenFile.{OpenFile}
use Rattle.fit_writer.specs.declared.kept.Parts.{Parts}
use Rattle.fit_writer.specs.declared.refusal.RunRefusal.{RunRefusal}
use Rattle.fit_writer.specs.inner.Found.{least_length}
use Rattle.fit_writer.specs.inner.OpenFiles.{current_of}
use Rattle.fit_writer.specs.inner.Runs.{IsRunStopped}

-- It is what the block says, and the bytes of entries begin with one for each developer field.
pub record ArePartsOf (p : Parts) (dev block : List ℕ) : Type 0 where
  pub stands : why_no_lone_definition block ≡ None
  pub definition : p.definition ≡ definition_in block
  pub codes : p.codes ≡ codes_in block
  pub slots : p.slots ≡ slots_in block
  pub entries : entries_of (length p.codes) dev ≡ dev_entries block
  pub stand : list_all (entry_stands 1) (entries_of (length p.codes) dev) ≡ true
  pub fits : DefinitionFits p.definition
  pub many : length p.codes ≡ length (dev_defs p.definition.dev)
  pub slots_fit : SlotsFit (lone_layout p.definition p.codes) p.slots
  pub least : p.least ≡ least_length p.slots

abbrev pub IsGoodKept : List ℕ → List ℕ → Option Parts → Type 0
IsGoodKept block dev parts = IfSome parts (λ p. ArePartsOf p dev block)

-- A run stopped before its first block, or at one.
abbrev pub IsRunOfBlock : OpenFile → OpenFile → List ℕ → List ℕ → RunRefusal → Type 0
IsRunOfBlock old new definition bytes stop =
    ((current_of new ≡ current_of old) × (stop.count ≡ 0) × (stop.accumulated ≡ 0) × (stop.place ≡ 0) × IsRunBarred (Some (current_of old)) definition
    stop.refusal)
    ⊎ ((why_no_lone_definition definition ≡ None) × IsRunStopped old new (form_in definition) (has_amounts definition) bytes stop)
