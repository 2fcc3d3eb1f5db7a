-- What there is of a record that isn't whole: which parts of the form have come, and the bytes that spell them.
-- No contract of another crate names these definitions.
use Rattle.std.specs.Prelude.{◌≡◌, ℕ, ◌+◌, ◌*◌, ◌<◌, ◌≤◌, ◌^◌, List, [], ◌∷◌, ◌++◌, length, map, flat_map, Option, Some, None}
use Rattle.std.specs.List.{AllByRecursion}
use Rattle.fit_base.specs.declared.items.Items.{Items}
use Rattle.fit_base.specs.BaseTypes.{item_width}
use Rattle.fit_base.specs.Numbers.{IsBytes, number_bytes}
use Rattle.fit_base.specs.Fields.{items_bytes}
use Rattle.fit_frame.specs.declared.reason.Reason.{Reason}
use Rattle.fit_frame.specs.declared.reason.Reason.TheVariants.{NoFit, Overrun}
use Rattle.fit_record.specs.declared.definition.DevDef.{DevDef}
use Rattle.fit_record.specs.declared.definition.MessageDef.{MessageDef}
use Rattle.fit_record.specs.declared.environment.Defined.{Defined}
use Rattle.fit_record.specs.declared.message.Record.{Record}
use Rattle.fit_step.specs.declared.phase.DefinitionPhase.{DefinitionPhase}
use Rattle.fit_step.specs.declared.phase.DefinitionPhase.TheVariants.{Reserved, Architecture, GlobalFirst, GlobalSecond, FieldCount, FieldNumber, FieldSize}
use Rattle.fit_step.specs.declared.phase.DefinitionPhase.TheVariants.{FieldCode, DevCount, DevNumber, DevSize, DevIndex}
use Rattle.fit_step.specs.declared.phase.Phase.TheVariants.{FieldItems, DevItems}
use Rattle.fit_record.specs.Environment.{Environment, defined_at, dev_defs}
use Rattle.fit_record.specs.Records.{architecture, field_bytes, dev_field_bytes, definition_header, layout, dev_layout, HaveShape, data_header, DataHeaderFits}
use Rattle.fit_record.specs.Records.{Fits, order_at, record_bytes}
use Rattle.fit_step.specs.Machine.{State, start, defining, reading, no_items}

-- The fields of one kind in a data message: those that are whole, with code and size of each; the field that is read, its
-- whole numbers, the bytes of the next number, and how many bytes are to come; and the fields that haven't begun.
pub record TakenFields (A : Type 0) : Type 0 where
  pub done : List (ℕ × ℕ)
  pub whole : List (Items A)
  pub field : ℕ × ℕ
  pub bits : List ℕ
  pub partial : List ℕ
  pub left : ℕ
  pub to_come : List (ℕ × ℕ)

pub data RecordPart (A : Type 0) : Type 0 where
  nothing : RecordPart A
  -- a definition, as far as it has come
  in_definition : DefinitionPhase → MessageDef A → RecordPart A
  -- local message type and time offset of a data message, its fields as far as they have come, and code and size of its
  -- developer fields
  in_fields : ℕ → Option ℕ → TakenFields A → List (ℕ × ℕ) → RecordPart A
  -- the same with all fields, and its developer fields as far as they have come
  in_dev_fields : ℕ → Option ℕ → List (Items A) → TakenFields A → RecordPart A

abbrev pub width_of : {A : Type 0} → TakenFields A → ℕ
width_of t = item_width t.field.0 t.field.1

-- the whole fields, and what there is of the one that is read
abbrev pub taken : {A : Type 0} → TakenFields A → List (Items A)
taken t = t.whole ++ (record { width = width_of t; bits = t.bits }) ∷ []

-- all of them, those that haven't begun without items
abbrev pub all_items : {A : Type 0} → TakenFields A → List (Items A)
all_items t = taken t ++ map no_items t.to_come

-- ---- the bytes

abbrev pub definition_front : {A : Type 0} → MessageDef A → List ℕ
definition_front d = definition_header d ∷ d.reserved ∷ architecture d.order ∷ number_bytes d.order 2 d.global

-- up to the fields that have come, where that many are counted
abbrev pub fields_front : {A : Type 0} → MessageDef A → ℕ → List ℕ
fields_front d count = definition_front d ++ count ∷ flat_map field_bytes d.fields

-- up to the developer fields that have come
abbrev pub dev_front : {A : Type 0} → MessageDef A → ℕ → List ℕ
dev_front d count = fields_front d (length d.fields) ++ count ∷ flat_map dev_field_bytes (dev_defs d.dev)

abbrev pub definition_part : {A : Type 0} → DefinitionPhase → MessageDef A → List ℕ
definition_part Reserved d = definition_header d ∷ []
definition_part Architecture d = definition_header d ∷ d.reserved ∷ []
definition_part GlobalFirst d = definition_header d ∷ d.reserved ∷ architecture d.order ∷ []
definition_part (GlobalSecond first) d = definition_header d ∷ d.reserved ∷ architecture d.order ∷ first ∷ []
definition_part FieldCount d = definition_front d
definition_part (FieldNumber left) d = fields_front d (length d.fields + left)
definition_part (FieldSize left number) d = fields_front d (length d.fields + left) ++ number ∷ []
definition_part (FieldCode left number size) d = fields_front d (length d.fields + left) ++ number ∷ size ∷ []
definition_part DevCount d = fields_front d (length d.fields)
definition_part (DevNumber left) d = dev_front d (length (dev_defs d.dev) + left)
definition_part (DevSize left number) d = dev_front d (length (dev_defs d.dev) + left) ++ number ∷ []
definition_part (DevIndex left number size) d = dev_front d (length (dev_defs d.dev) + left) ++ number ∷ size ∷ []

abbrev pub part_bytes : {A : Type 0} → Environment A → RecordPart A → List ℕ
part_bytes e nothing = []
part_bytes e (in_definition k d) = definition_part k d
part_bytes e (in_fields local offset t dev) =
    data_header local offset ∷ flat_map (items_bytes (order_at e local)) (taken t) ++ t.partial
part_bytes e (in_dev_fields local offset items t) =
    data_header local offset ∷ flat_map (items_bytes (order_at e local)) items ++ (flat_map (items_bytes (order_at e local)) (taken t) ++ t.partial)

-- ---- that these parts can have come

abbrev pub HasNone : Option (List DevDef) → Type 0
HasNone None = Unit {0}
HasNone (Some fields) = fields ≡ []

-- a definition with no entry so far
pub record IsNew {A : Type 0} (d : MessageDef A) : Type 0 where
  pub local : d.local < 16
  pub global : d.global < 2 ^ 16
  pub fields : d.fields ≡ []
  pub dev : HasNone d.dev

-- that many entries of fields are to come
pub record AwaitsFields {A : Type 0} (d : MessageDef A) (left : ℕ) : Type 0 where
  pub local : d.local < 16
  pub global : d.global < 2 ^ 16
  pub some : 0 < left
  pub few : length d.fields + left < 256
  pub dev : HasNone d.dev

-- that many entries of developer fields are to come
pub record AwaitsDev {A : Type 0} (d : MessageDef A) (left : ℕ) : Type 0 where
  pub local : d.local < 16
  pub global : d.global < 2 ^ 16
  pub fields : length d.fields < 256
  pub defs : List DevDef
  pub dev : d.dev ≡ Some defs
  pub few : length defs + left < 256

abbrev pub IsDefinitionPart : {A : Type 0} → DefinitionPhase → MessageDef A → Type 0
IsDefinitionPart Reserved d = IsNew d
IsDefinitionPart Architecture d = IsNew d
IsDefinitionPart GlobalFirst d = IsNew d
IsDefinitionPart (GlobalSecond first) d = IsNew d × (first < 256)
IsDefinitionPart FieldCount d = IsNew d
IsDefinitionPart (FieldNumber left) d = AwaitsFields d left
IsDefinitionPart (FieldSize left number) d = AwaitsFields d left
IsDefinitionPart (FieldCode left number size) d = AwaitsFields d left
IsDefinitionPart DevCount d = AwaitsDev d 0 × (d.dev ≡ Some [])
IsDefinitionPart (DevNumber left) d = AwaitsDev d left × (0 < left)
IsDefinitionPart (DevSize left number) d = AwaitsDev d left × (0 < left)
IsDefinitionPart (DevIndex left number size) d = AwaitsDev d left × (0 < left)

-- these are the fields of a layout
pub record IsTaking {A : Type 0} (all : List (ℕ × ℕ)) (t : TakenFields A) : Type 0 where
  pub layout : all ≡ t.done ++ t.field ∷ t.to_come
  pub shapes : HaveShape t.done t.whole
  pub numbers : AllByRecursion (λ n. n < 256 ^ width_of t) t.bits
  pub size : length t.bits * width_of t + length t.partial + t.left ≡ t.field.1
  pub short : length t.partial < width_of t
  pub some : 0 < t.left
  pub bytes : IsBytes t.partial

abbrev pub IsPart : {A : Type 0} → Environment A → RecordPart A → Type 0
IsPart e nothing = Unit {0}
IsPart e (in_definition k d) = IsDefinitionPart k d
IsPart {A} e (in_fields local offset t dev) =
    (p : Defined A) × (defined_at e local ≡ Some p) × DataHeaderFits local offset × IsTaking (layout p) t × (dev ≡ dev_layout p)
IsPart {A} e (in_dev_fields local offset items t) =
    (p : Defined A) × (defined_at e local ≡ Some p) × DataHeaderFits local offset × HaveShape (layout p) items × IsTaking (dev_layout p) t

-- something has come
abbrev pub HasBegun : {A : Type 0} → RecordPart A → Type 0
HasBegun nothing = ⊥
HasBegun part = Unit {0}

-- ---- the state after them

abbrev pub state_of : {A : Type 0} → ℕ → RecordPart A → State A
state_of room nothing = start room
state_of room (in_definition k d) = defining k room d
state_of room (in_fields local offset t dev) =
    reading (FieldItems (length t.done) (width_of t) t.left) room (record { local = local; offset = offset; fields = all_items t; dev = map no_items dev })
    t.partial
state_of room (in_dev_fields local offset items t) =
    reading (DevItems (length t.done) (width_of t) t.left) room (record { local = local; offset = offset; fields = items; dev = all_items t }) t.partial

-- ---- a byte that is refused

-- No record begins with the bytes and b. With Overrun those that do are longer than the room, which counts b;
-- with NoFit it depends on the records after them.
abbrev pub IsShut : {A : Type 0} → Environment A → ℕ → List ℕ → ℕ → Reason → Type 0
IsShut e room bytes b NoFit = Unit {0}
IsShut {A} e room bytes b Overrun = (r : Record A) (rest : List ℕ) → Fits e r → record_bytes e r ≡ bytes ++ b ∷ rest → room ≤ length rest
IsShut {A} e room bytes b reason = (r : Record A) (rest : List ℕ) → Fits e r → record_bytes e r ≡ bytes ++ b ∷ rest → ⊥
