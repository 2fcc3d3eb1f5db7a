-- The tests of rooms that an environment gives: whether records can still fill what is left of the data section.
-- No contract of another crate names these definitions.
use Rattle.std.specs.Prelude.{ℕ, ◌+◌, ◌*◌, Bool, List, Option, Some, None}
use Rattle.fit_record.specs.declared.definition.DevDef.{DevDef}
use Rattle.fit_record.specs.Environment.{Environment}
use Rattle.fit_record.specs.Records.{body_length}
use Rattle.fit_record.specs.Rooms.{can_fill}
use Rattle.fit_record.specs.Unfinished.{can_complete, can_complete_dev}
use Rattle.fit_step.specs.Machine.{Tests}

-- Bytes of entries of fields are to come, and then the number of developer fields where there are any.
abbrev pub entries_complete : {A : Type 0} → Environment A → Option (List DevDef) → ℕ → ℕ → ℕ → ℕ → Bool
entries_complete e None local to_come size room = can_complete e local to_come size room
entries_complete e (Some _) local to_come size room = can_complete_dev e local to_come size room

abbrev pub tests_of : {A : Type 0} → Environment A → Tests A
tests_of e = record {
  message = λ room. can_fill e room;
  dev_count = λ d room count. can_complete e d.local (3 * count) (body_length d) room;
  field_size = λ d more room size. entries_complete e d.dev d.local (1 + 3 * more) (body_length d + size) room;
  dev_size = λ d more room size. can_complete e d.local (1 + 3 * more) (body_length d + size) room;
}
