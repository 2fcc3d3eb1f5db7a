-- Forms as the code has them. No public contract names these.
use Rattle.std.specs.Prelude.{◌≡◌, true, length, map}
use Rattle.std.specs.List.{list_all}
use Rattle.fit_record.specs.Environment.{dev_defs}
use Rattle.fit_record.specs.Records.{DefinitionFits}
use Rattle.fit_from_messages.specs.Alone.{lone_layout}
use Rattle.fit_from_messages.specs.Parts.{entries_of, entry_stands}
use Rattle.fit_from_messages.specs.Slots.{SlotsFit}
use Rattle.fit_from_messages.specs.declared.alone.LoneDefinition.{LoneDefinition}
use Rattle.fit_writer.specs.Reading.{Form, entry_naming}

-- what a definition that was read says
abbrev pub form_of : LoneDefinition → Form
form_of d = record {
  definition = d.definition;
  codes = d.codes;
  namings = map entry_naming (entries_of (length d.codes) d.dev.now);
  slots = d.slots;
}

-- It stands by itself, and the bytes of entries begin with one for each developer field.
pub record IsLone (d : LoneDefinition) : Type 0 where
  pub fits : DefinitionFits d.definition
  pub many : length d.codes ≡ length (dev_defs d.definition.dev)
  pub slots_fit : SlotsFit (lone_layout d.definition d.codes) d.slots
  pub stand : list_all (entry_stands 1) (entries_of (length d.codes) d.dev.now) ≡ true
