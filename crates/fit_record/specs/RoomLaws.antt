-- When an unfinished record can be completed so that records fill the room after it. `count` is how many entries there will be,
-- `entry` what has come of the one in progress, at most two bytes, and `to_come` how many bytes of the entries haven't come.
use Rattle.std.specs.Prelude.{ℕ, ◌+◌, ◌<◌, ◌≤◌, ◌^◌, ◌≡◌, ◌↔◌, IsTrue, Bool, if◌then◌else◌, List, [], length, slice_index, Option, Some, None, IfSome}
use Rattle.fit_base.specs.Numbers.{IsBytes}
use Rattle.fit_record.specs.declared.definition.MessageDef.{MessageDef}
use Rattle.fit_record.specs.declared.definition.DevDef.{DevDef}
use Rattle.fit_record.specs.declared.message.Record.{Record}
use Rattle.fit_record.specs.Environment.{Environment, empty_environment, defined_at, learn_all}
use Rattle.fit_record.specs.Records.{message_size, DataHeaderFits, data_header, definition_header}
use Rattle.fit_record.specs.Unfinished.{CanComplete, IsCut, fields_part, dev_fields_part, size_so_far, can_complete, can_complete_dev, can_complete_front}
use Rattle.fit_record.specs.Unfinished.{CanCarry, can_carry}

-- Whatever the records of a file, there are sixteen places, as the laws below ask.
abbrev pub HaveSixteenPlaces : Type 0 → Type 0
HaveSixteenPlaces A = (records : List (Record A)) → length (learn_all empty_environment records).places ≡ 16

-- In these laws `count` is the number of fields, or of developer fields, that the definition message gives; `to_come` is how many
-- bytes of their entries haven't come yet; `room` is how many bytes the data section has after those that have come.

-- An unfinished definition message can be completed, and what it leaves of the room be filled, exactly where the test
-- says so: while the number of its fields or a byte before it is to come,
abbrev pub FrontsAreTested : Type 0 → Type 0
FrontsAreTested A = (e : Environment A) (local : ℕ) (dev : Bool) (part : List ℕ) (room : ℕ) → length e.places ≡ 16 → local < 16
    → length part < 5 → slice_index part 1 < 2 → IsBytes part
    → IsTrue (can_complete_front dev (length part) room) ↔ CanComplete e (0x40 + local + (if dev then 0x20 else 0)) part room

-- among the fields, where no developer fields follow,
abbrev pub FieldsAreTested : Type 0 → Type 0
FieldsAreTested A = (e : Environment A) (d : MessageDef A) (count : ℕ) (entry : List ℕ) (to_come room : ℕ) → length e.places ≡ 16
    → d.local < 16 → d.global < 2 ^ 16 → count < 256 → IsCut count (length d.fields) entry to_come → d.dev ≡ None
    → IsTrue (can_complete e d.local to_come (size_so_far d entry) room) ↔ CanComplete e (definition_header d) (fields_part d count entry) room

-- among the fields or after them, where the number of developer fields is to come,
abbrev pub DevNumbersAreTested : Type 0 → Type 0
DevNumbersAreTested A = (e : Environment A) (d : MessageDef A) (count : ℕ) (entry : List ℕ) (to_come room : ℕ) → length e.places ≡ 16
    → d.local < 16 → d.global < 2 ^ 16 → count < 256 → IsCut count (length d.fields) entry to_come → d.dev ≡ Some []
    → IsTrue (can_complete_dev e d.local to_come (size_so_far d entry) room) ↔ CanComplete e (definition_header d) (fields_part d count entry) room

-- and among the developer fields.
abbrev pub DevFieldsAreTested : Type 0 → Type 0
DevFieldsAreTested A = (e : Environment A) (d : MessageDef A) (devs : List DevDef) (count : ℕ) (entry : List ℕ) (to_come room : ℕ) → length e.places ≡ 16
    → d.local < 16 → d.global < 2 ^ 16 → length d.fields < 256 → count < 256 → d.dev ≡ Some devs → IsCut count (length devs) entry to_come
    → IsTrue (can_complete e d.local to_come (size_so_far d entry) room) ↔ CanComplete e (definition_header d) (dev_fields_part d count entry) room

-- A data message of which these bytes have come can be completed, and what it leaves of the room be filled, exactly where
-- it could when its record header came.
abbrev pub MessagesAreTested : Type 0 → Type 0
MessagesAreTested A = (e : Environment A) (local : ℕ) (offset : Option ℕ) (part : List ℕ) (room : ℕ) → length e.places ≡ 16
    → DataHeaderFits local offset → IsBytes part → IfSome (defined_at e local) (λ p. length part ≤ message_size p)
    → IsTrue (can_carry e local (length part + room)) ↔ CanCarry e (data_header local offset) part room
