-- The bytes of records (sections "Record Header", "Definition Message", "Data Message" and "Developer Fields").
use Rattle.std.specs.Prelude.{◌≡◌, ℕ, ◌+◌, ◌*◌, ◌<◌, ◌^◌, List, [], ◌∷◌, ◌++◌, length, map, flat_map, zip, sum_by, Option, Some, None, IsSomeAnd, unwrap_or}
use Rattle.std.specs.Prelude.{option_map}
use Rattle.fit_base.specs.declared.items.Items.{Items}
use Rattle.fit_base.specs.declared.number.Order.{Order}
use Rattle.fit_base.specs.declared.number.Order.TheVariants.{Little, Big}
use Rattle.fit_base.specs.Numbers.{number_bytes}
use Rattle.fit_base.specs.Fields.{HasShape, items_bytes}
use Rattle.fit_record.specs.declared.definition.FieldDef.{FieldDef}
use Rattle.fit_record.specs.declared.definition.DevDef.{DevDef}
use Rattle.fit_record.specs.declared.definition.MessageDef.{MessageDef}
use Rattle.fit_record.specs.declared.message.Values.{Values}
use Rattle.fit_record.specs.declared.message.Record.{Record}
use Rattle.fit_record.specs.declared.message.Record.TheVariants.{Define, Values as Data}
use Rattle.fit_record.specs.declared.environment.Defined.{Defined}
use Rattle.fit_record.specs.Environment.{Environment, defined_at, dev_defs, learn}

-- ---- definition messages

-- 0 for little endian, 1 for big endian
abbrev pub architecture : Order → ℕ
architecture Little = 0
architecture Big = 1

-- a field: its number, its size in bytes, its base type code (section "Field Definition")
abbrev pub field_bytes : FieldDef → List ℕ
field_bytes f = f.number ∷ f.size ∷ f.code ∷ []

-- a developer field: its number, its size in bytes, its developer data index (section "Developer Field Definition")
abbrev pub dev_field_bytes : DevDef → List ℕ
dev_field_bytes f = f.number ∷ f.size ∷ f.index ∷ []

-- the developer fields after their number, where the definition has any
abbrev pub dev_part : Option (List DevDef) → List ℕ
dev_part None = []
dev_part (Some fields) = length fields ∷ flat_map dev_field_bytes fields

-- bit 6, and bit 5 where there are developer fields
abbrev pub definition_header : {A : Type 0} → MessageDef A → ℕ
definition_header d = 0x40 + d.local + unwrap_or (option_map (λ _. 0x20) d.dev) 0

-- what follows the record header
abbrev pub definition_bytes : {A : Type 0} → MessageDef A → List ℕ
definition_bytes d =
    d.reserved ∷ architecture d.order ∷ number_bytes d.order 2 d.global
    ++ length d.fields ∷ flat_map field_bytes d.fields ++ dev_part d.dev

-- The numbers and the counts of a definition message have room in their bits.
pub record DefinitionFits {A : Type 0} (d : MessageDef A) : Type 0 where
  pub local : d.local < 16
  pub global : d.global < 2 ^ 16
  pub fields : length d.fields < 256
  pub dev_fields : length (dev_defs d.dev) < 256

-- ---- data messages

-- base type code and size of each field
abbrev pub layout : {A : Type 0} → Defined A → List (ℕ × ℕ)
layout p = map (λ f. (f.code, f.size)) p.definition.fields

-- the same of each developer field
abbrev pub dev_layout : {A : Type 0} → Defined A → List (ℕ × ℕ)
dev_layout p = zip p.dev_codes (map (λ f. f.size) (dev_defs p.definition.dev))

-- the sum of the sizes of fields
abbrev pub sizes : List (ℕ × ℕ) → ℕ
sizes fs = sum_by (λ f. f.1) fs

-- how many bytes follow the record header of a data message
abbrev pub message_size : {A : Type 0} → Defined A → ℕ
message_size p = sum_by (λ f. f.1) (layout p ++ dev_layout p)

-- There are as many fields as defined, each of the shape that its code and size give.
abbrev pub HaveShape : {A : Type 0} → List (ℕ × ℕ) → List (Items A) → Type 0
HaveShape [] [] = Unit {0}
HaveShape (f ∷ fields) (i ∷ items) = HasShape f.0 f.1 i × HaveShape fields items
HaveShape _ _ = ⊥

-- a normal header has the local message type alone, a compressed one also a time offset
abbrev pub data_header : ℕ → Option ℕ → ℕ
data_header local None = local
data_header local (Some offset) = 0x80 + 32 * local + offset

-- local message type and time offset have room in the record header
abbrev pub DataHeaderFits : ℕ → Option ℕ → Type 0
DataHeaderFits local None = local < 16
DataHeaderFits local (Some offset) = (local < 4) × (offset < 32)

-- how many bytes follow the record header: the sum of a definition's sizes
abbrev pub body_length : {A : Type 0} → MessageDef A → ℕ
body_length d = sum_by (λ f. f.size) d.fields + sum_by (λ f. f.size) (dev_defs d.dev)

-- the fields, and then the developer fields
abbrev pub data_bytes : {A : Type 0} → Order → Values A → List ℕ
data_bytes order v = flat_map (items_bytes order) v.fields ++ flat_map (items_bytes order) v.dev

-- The data message is one of this definition.
pub record DataFits {A : Type 0} (v : Values A) (p : Defined A) : Type 0 where
  pub header : DataHeaderFits v.local v.offset
  pub fields : HaveShape (layout p) v.fields
  pub dev_fields : HaveShape (dev_layout p) v.dev

-- ---- records

-- the record can be next where this is known
abbrev pub Fits : {A : Type 0} → Environment A → Record A → Type 0
Fits e (Define d) = DefinitionFits d
Fits e (Data v) = IsSomeAnd (defined_at e v.local) (DataFits v)

-- the byte order of a local message type
abbrev pub order_at : {A : Type 0} → Environment A → ℕ → Order
order_at e local = unwrap_or (option_map (λ p. p.definition.order) (defined_at e local)) Little

-- the one spelling of a record that fits
abbrev pub record_bytes : {A : Type 0} → Environment A → Record A → List ℕ
record_bytes e (Define d) = definition_header d ∷ definition_bytes d
record_bytes e (Data v) = data_header v.local v.offset ∷ data_bytes (order_at e v.local) v

-- The bytes are those of the record.
abbrev pub IsRecord : {A : Type 0} → Environment A → Record A → List ℕ → Type 0
IsRecord e r bytes = Fits e r × (bytes ≡ record_bytes e r)

-- records one after another, each where the earlier ones are known
abbrev pub AllFit : {A : Type 0} → Environment A → List (Record A) → Type 0
AllFit e [] = Unit {0}
AllFit e (r ∷ records) = Fits e r × AllFit (learn e r) records

-- the bytes of records, one after another
abbrev pub records_bytes : {A : Type 0} → Environment A → List (Record A) → List ℕ
records_bytes e [] = []
records_bytes e (r ∷ records) = record_bytes e r ++ records_bytes (learn e r) records

-- The bytes are those of the records.
abbrev pub AreRecords : {A : Type 0} → Environment A → List (Record A) → List ℕ → Type 0
AreRecords e records bytes = AllFit e records × (bytes ≡ records_bytes e records)
