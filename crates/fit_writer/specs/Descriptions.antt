-- Descriptions that are put by themselves, and why they aren't.
use Rattle.std.specs.Prelude.{◌≡◌, ◌≤◌, ◌^◌, ℕ, List, Option, Some, None, IfSome, IsSomeAnd}
use Rattle.std.specs.Global.{Global}
use Rattle.fit_record.specs.declared.definition.MessageDef.{MessageDef}
use Rattle.fit_record.specs.declared.message.Record.{Record}
use Rattle.fit_from_messages.specs.Alone.{why_no_lone_definition}
use Rattle.fit_writer.specs.Describing.{CanBeDescribed, DescribesForm, DescribesSome, IsOfDescriptions, dev_fields}
use Rattle.fit_writer.specs.Reading.{Form, form_in}
use Rattle.fit_writer.specs.Written.{Current, Writing, data_length, with_definition, with_records}
use Rattle.fit_writer.specs.declared.refusal.Refusal.{Refusal}
use Rattle.fit_writer.specs.declared.refusal.Refusal.TheVariants.{NoFile, Block, Described, TooLong, NoMemory}

-- The developer fields of this form are described in the file that has begun.
abbrev pub PutsDescriptions : Writing → Writing → Form → Type 0
PutsDescriptions old new form =
    IsSomeAnd old.current (λ f. (after : List (Record Global)) × DescribesForm f.records after form × (new ≡ with_records old f after))

-- Some were put, the first ones; and where memory was refused, maybe the definition message of the next.
abbrev pub PutsSome : Writing → Writing → Form → Option (MessageDef Global) → Type 0
PutsSome old new form defined = IsSomeAnd old.current (λ f. (after : List (Record Global))
    × DescribesSome f.records after (dev_fields form) × (new ≡ with_records old f (with_definition defined after)))

-- After a refusal nothing has changed; but where there is no more room or memory, some may have been put.
abbrev pub KeepsSome : Writing → Writing → Form → Refusal → Type 0
KeepsSome old new form TooLong = PutsSome old new form None
KeepsSome old new form NoMemory =
    (defined : Option (MessageDef Global)) × IfSome defined IsOfDescriptions × PutsSome old new form defined
KeepsSome old new form _ = new ≡ old

-- The definition can't stand; no messages can describe its developer fields so; or with some of these messages the data would be too long.
abbrev pub IsDescriptionRefusal : Option Current → List ℕ → Refusal → Type 0
IsDescriptionRefusal None definition NoFile = Unit {0}
IsDescriptionRefusal None definition _ = ⊥
IsDescriptionRefusal (Some f) definition (Block reason) = why_no_lone_definition definition ≡ Some reason
IsDescriptionRefusal (Some f) definition Described =
    (why_no_lone_definition definition ≡ None) × (CanBeDescribed f.records (form_in definition) → ⊥)
IsDescriptionRefusal (Some f) definition TooLong =
    (why_no_lone_definition definition ≡ None)
    × ((after : List (Record Global)) × DescribesSome f.records after (dev_fields (form_in definition)) × (2 ^ 32 ≤ data_length after))
IsDescriptionRefusal (Some f) definition NoMemory = Unit {0}
IsDescriptionRefusal (Some f) definition _ = ⊥
