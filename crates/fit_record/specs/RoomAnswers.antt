-- What the room tests of unfinished records say: whether bytes can follow that complete the record, and records after it that
-- fill the room. `size` is the sum of the sizes that have come, `to_come` how many bytes of the entries haven't, `count` how many
-- entries there will be, and `entry` what has come of the one in progress, at most two bytes.
use Rattle.std.specs.Prelude.{◌≡◌, ℕ, ◌+◌, ◌<◌, ◌≤◌, ◌^◌, ◌↔◌, IsTrue, Bool, if◌then◌else◌, List, [], length, slice_index, Option, Some, None, IfSome}
use Rattle.fit_base.specs.Numbers.{IsBytes}
use Rattle.fit_record.specs.declared.definition.MessageDef.{MessageDef}
use Rattle.fit_record.specs.declared.definition.DevDef.{DevDef}
use Rattle.fit_record.specs.Environment.{Environment, defined_at}
use Rattle.fit_record.specs.Records.{message_size, DataHeaderFits, data_header, definition_header}
use Rattle.fit_record.specs.Unfinished.{CanComplete, IsCut, fields_part, dev_fields_part, size_so_far, CanCarry}

-- Of a definition message the record header and this many bytes have come, and the number of its fields has not.
abbrev pub AnswersFront : {A : Type 0} → Environment A → Bool → ℕ → ℕ → Bool → Type 0
AnswersFront e dev come room answer = (local : ℕ) (part : List ℕ) → local < 16 → length part ≡ come → slice_index part 1 < 2 → IsBytes part
    → IsTrue answer ↔ CanComplete e (0x40 + local + (if dev then 0x20 else 0)) part room

-- It has come up to some place among its fields, and no developer fields follow.
abbrev pub AnswersFields : {A : Type 0} → Environment A → ℕ → ℕ → ℕ → ℕ → Bool → Type 0
AnswersFields {A} e local to_come size room answer = (d : MessageDef A) (count : ℕ) (entry : List ℕ) → d.local ≡ local → size_so_far d entry ≡ size
    → d.global < 2 ^ 16 → count < 256 → IsCut count (length d.fields) entry to_come → d.dev ≡ None
    → IsTrue answer ↔ CanComplete e (definition_header d) (fields_part d count entry) room

-- The same, where the number of developer fields is to come after the fields.
abbrev pub AnswersDevNumber : {A : Type 0} → Environment A → ℕ → ℕ → ℕ → ℕ → Bool → Type 0
AnswersDevNumber {A} e local to_come size room answer = (d : MessageDef A) (count : ℕ) (entry : List ℕ) → d.local ≡ local → size_so_far d entry ≡ size
    → d.global < 2 ^ 16 → count < 256 → IsCut count (length d.fields) entry to_come → d.dev ≡ Some []
    → IsTrue answer ↔ CanComplete e (definition_header d) (fields_part d count entry) room

-- It has come up to some place among its developer fields.
abbrev pub AnswersDevFields : {A : Type 0} → Environment A → ℕ → ℕ → ℕ → ℕ → Bool → Type 0
AnswersDevFields {A} e local to_come size room answer =
    (d : MessageDef A) (devs : List DevDef) (count : ℕ) (entry : List ℕ) → d.local ≡ local → size_so_far d entry ≡ size
    → d.global < 2 ^ 16 → length d.fields < 256 → count < 256 → d.dev ≡ Some devs → IsCut count (length devs) entry to_come
    → IsTrue answer ↔ CanComplete e (definition_header d) (dev_fields_part d count entry) room

-- Of a data message the record header has come, and some bytes after it; the room is what was left after the record header.
abbrev pub AnswersMessage : {A : Type 0} → Environment A → ℕ → ℕ → Bool → Type 0
AnswersMessage e local room answer = (offset : Option ℕ) (part : List ℕ) (left : ℕ) → DataHeaderFits local offset → IsBytes part
    → IfSome (defined_at e local) (λ p. length part ≤ message_size p) → length part + left ≡ room
    → IsTrue answer ↔ CanCarry e (data_header local offset) part left
