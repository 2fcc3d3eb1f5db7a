-- How developer fields are described: by messages 206, and messages 207 before them (FIT protocol, "Developer Data").
use Rattle.std.specs.Prelude.{◌≡◌, ◌⊎◌, ◌==◌, ◌<◌, ◌+◌, ℕ, if◌then◌else◌, List, [], ◌∷◌, ◌++◌, length, map, zip, Option, Some, None}
use Rattle.std.specs.Prelude.{option_and_then, IfSome}
use Rattle.std.specs.Global.{Global}
use Rattle.std.specs.List.{AllByRecursion, Contains}
use Rattle.fit_base.specs.declared.items.Items.{Items}
use Rattle.fit_base.specs.declared.number.Order.TheVariants.{Little}
use Rattle.fit_record.specs.declared.definition.DevDef.{DevDef}
use Rattle.fit_record.specs.declared.definition.FieldDef.{FieldDef}
use Rattle.fit_record.specs.declared.definition.MessageDef.{MessageDef}
use Rattle.fit_record.specs.declared.message.Record.{Record}
use Rattle.fit_record.specs.declared.message.Record.TheVariants.{Values as Data}
use Rattle.fit_record.specs.declared.message.Values.{Values}
use Rattle.fit_record.specs.Environment.{dev_defs, only}
use Rattle.fit_profile.specs.Described.{Naming, nameless, printable_text}
use Rattle.fit_writer.specs.Placed.{IsDescribed, IsPlaced, WouldSaySame, with_definition}
use Rattle.fit_writer.specs.Reading.{Form, Reading, reading_after, readings}

-- ---- the messages that describe

-- a field of one uint8, with its item
abbrev pub byte_field : ℕ → ℕ → FieldDef × Items Global
byte_field number value = (record { number = number; size = 1; code = 0x02 }, record { width = 1; bits = value ∷ [] })

-- a field of a string with its closing zero, where there is a text
abbrev pub text_fields : ℕ → Option (List ℕ) → List (FieldDef × Items Global)
text_fields number None = []
text_fields number (Some text) =
    (record { number = number; size = length text + 1; code = 0x07 }, record { width = 1; bits = text ++ 0 ∷ [] }) ∷ []

-- what a reader is told of a message of these fields, without a time
abbrev pub plain_reading : ℕ → List (FieldDef × Items Global) → Reading
plain_reading global fields = record { global = global; fields = fields; dev = []; time = None }

-- There is this developer data index (message 207, "developer_data_id").
abbrev pub index_reading : ℕ → Reading
index_reading index = plain_reading 207 (byte_field 3 index ∷ [])

-- The developer field of this index and number has this base type, name and unit (message 206, "field_description").
abbrev pub description_reading : DevDef → ℕ → Naming → Reading
description_reading d code n =
    plain_reading 206 (byte_field 0 d.index ∷ byte_field 1 d.number ∷ byte_field 2 code ∷ text_fields 3 n.name ++ text_fields 8 n.unit)

-- It is a message that describes a developer field, or says its index.
abbrev pub IsDescribing : Reading → Type 0
IsDescribing r =
    ((index : ℕ) × (r ≡ index_reading index)) ⊎ ((d : DevDef) × (code : ℕ) × (n : Naming) × (r ≡ description_reading d code n))

-- ---- the indices that there are

-- the items of the first field of this number
abbrev pub items_of : ℕ → List (FieldDef × Items Global) → Option (Items Global)
items_of number [] = None
items_of number (f ∷ fields) = if f.0.number == number then Some f.1 else items_of number fields

-- the developer data index that a message 207 says, where its field 3 is one byte
abbrev pub index_said : Reading → Option ℕ
index_said r =
    if r.global == 207 then option_and_then (λ i. if i.width == 1 then only i.bits else None) (items_of 3 r.fields) else None

-- A message of the file says that there is this index.
abbrev pub HasIndex : List (Record Global) → ℕ → Type 0
HasIndex before index = Contains (map index_said (readings before)) (Some index)

-- ---- what is added

-- the definition of a message without developer fields that is read as this one, for a local message type
abbrev pub plain_form : ℕ → Reading → Form
plain_form local r = record {
  definition = record { local = local; reserved = 0; order = Little; global = r.global; fields = map (λ f. f.0) r.fields; dev = None };
  codes = [];
  namings = [];
  slots = [];
}

-- One message was added, of which a reader is told this; after a definition message where none says the same, for this local message type
-- if that is free.
pub record IsAdded (before after : List (Record Global)) (local : ℕ) (r : Reading) : Type 0 where
  pub defined : Option (MessageDef Global)
  pub message : Values Global
  pub records : after ≡ Data message ∷ with_definition defined before
  pub told : reading_after (with_definition defined before) message ≡ Some r
  pub offset : message.offset ≡ None
  pub placed : IsPlaced before (plain_form local r) (λ k. k < 16) defined message.local

-- There is this index: a message of the file says it, or else one that does was added.
abbrev pub AddsIndex : List (Record Global) → List (Record Global) → ℕ → Type 0
AddsIndex before after index =
    (HasIndex before index × (after ≡ before)) ⊎ ((HasIndex before index → ⊥) × IsAdded before after 14 (index_reading index))

-- a developer field, with the base type and the naming that it is to have
abbrev pub DevField : Type 0
DevField = DevDef × (ℕ × Naming)

-- A developer field that is defined now gets what it is to have.
abbrev pub IsDescribedField : List (Record Global) → DevField → Type 0
IsDescribedField before x = IsDescribed before x.0 x.1.0 x.1.1

-- It is described: it was, and nothing was added; or else its description was added, after its index.
abbrev pub DescribesField : List (Record Global) → List (Record Global) → DevField → Type 0
DescribesField before after x =
    (IsDescribedField before x × (after ≡ before))
    ⊎ ((IsDescribedField before x → ⊥) × (between : List (Record Global)) × AddsIndex before between x.0.index
    × IsAdded between after 15 (description_reading x.0 x.1.0 x.1.1))

-- one after another
abbrev pub DescribesEach : List (Record Global) → List (Record Global) → List DevField → Type 0
DescribesEach before after [] = after ≡ before
DescribesEach before after (x ∷ xs) = (between : List (Record Global)) × DescribesField before between x × DescribesEach between after xs

-- The first were described, and of the next the index may have been added.
abbrev pub DescribesSome : List (Record Global) → List (Record Global) → List DevField → Type 0
DescribesSome before after [] = after ≡ before
DescribesSome before after (x ∷ xs) =
    (after ≡ before) ⊎ ((IsDescribedField before x → ⊥) × AddsIndex before after x.0.index)
    ⊎ ((between : List (Record Global)) × DescribesField before between x × DescribesSome between after xs)

-- The definition message is of messages that describe.
abbrev pub IsOfDescriptions : MessageDef Global → Type 0
IsOfDescriptions d = (d.global ≡ 206) ⊎ (d.global ≡ 207)

-- the developer fields of a form
abbrev pub dev_fields : Form → List DevField
dev_fields f = zip (dev_defs f.definition.dev) (zip f.codes f.namings)

-- The developer fields of a form are described, so that a definition message that came now would be read as it.
abbrev pub DescribesForm : List (Record Global) → List (Record Global) → Form → Type 0
DescribesForm before after f = DescribesEach before after (dev_fields f) × WouldSaySame after f

-- ---- what can be described

-- A text is read back: it can be shown, and its field has at most 255 bytes with the closing zero.
abbrev pub IsReadBack : Option (List ℕ) → Type 0
IsReadBack o = IfSome o (λ text. (printable_text text ≡ Some text) × (length text < 255))

-- A message can give this: something other than what a developer field has without a description, with a name and a unit that are read back.
abbrev pub CanBeSaid : ℕ × Naming → Type 0
CanBeSaid said = (said ≡ (0x0D, nameless) → ⊥) × IsReadBack said.1.name × IsReadBack said.1.unit

-- Two developer fields have different indices or numbers, or else are to have the same.
abbrev pub IsAlike : DevField → DevField → Type 0
IsAlike x y = x.0.index ≡ y.0.index → x.0.number ≡ y.0.number → x.1 ≡ y.1

-- Each developer field is described or can be, and no other field of its index and number is to have anything else.
abbrev pub CanBeDescribed : List (Record Global) → Form → Type 0
CanBeDescribed before f =
    AllByRecursion (λ x. (IsDescribedField before x ⊎ CanBeSaid x.1) × AllByRecursion (IsAlike x) (dev_fields f)) (dev_fields f)
