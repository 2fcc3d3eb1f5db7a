-- One record, byte by byte: the state that a reader's fields hold, and what the next byte makes of it.
-- No contract of another crate names these definitions.
-- The environment stays the same inside a record.
use Rattle.std.specs.Prelude.{◌≡◌, ℕ, zero, suc, ◌+◌, ◌-◌, ◌*◌, ◌==◌, ◌⊎◌, Bool, if◌then◌else◌, nat_lt, List, [], ◌∷◌, ◌++◌, length, map, drop, Option}
use Rattle.std.specs.Prelude.{Some, None, Result, Ok, Err, option_map, unwrap_or}
use Rattle.fit_base.specs.declared.items.Items.{Items}
use Rattle.fit_base.specs.declared.number.Order.{Order}
use Rattle.fit_base.specs.declared.number.Order.TheVariants.{Little, Big}
use Rattle.fit_base.specs.BaseTypes.{item_width}
use Rattle.fit_base.specs.Numbers.{number}
use Rattle.fit_frame.specs.declared.reason.Reason.{Reason}
use Rattle.fit_frame.specs.declared.reason.Reason.TheVariants.{NoFit, ReservedBit, UndefinedLocal, Overrun, Architecture}
use Rattle.fit_record.specs.declared.definition.DevDef.{DevDef}
use Rattle.fit_record.specs.declared.definition.MessageDef.{MessageDef}
use Rattle.fit_record.specs.declared.message.Values.{Values}
use Rattle.fit_record.specs.declared.environment.Defined.{Defined}
use Rattle.fit_record.specs.declared.message.Record.{Record}
use Rattle.fit_record.specs.declared.message.Record.TheVariants.{Define, Values as Data}
use Rattle.fit_step.specs.declared.phase.DefinitionPhase.{DefinitionPhase}
use Rattle.fit_step.specs.declared.phase.DefinitionPhase.TheVariants.{Reserved, Architecture as AtArchitecture, GlobalFirst, GlobalSecond, FieldCount}
use Rattle.fit_step.specs.declared.phase.DefinitionPhase.TheVariants.{FieldNumber, FieldSize, FieldCode, DevCount, DevNumber, DevSize, DevIndex}
use Rattle.fit_step.specs.declared.phase.Phase.{Phase}
use Rattle.fit_step.specs.declared.phase.Phase.TheVariants.{RecordHeader, Definition, FieldItems, DevItems}
use Rattle.fit_record.specs.Environment.{Environment, defined_at, dev_defs}
use Rattle.fit_record.specs.Records.{sizes}
use Rattle.fit_record.specs.Records.{layout, dev_layout, order_at}
use Rattle.fit_record.specs.HeaderByte.{is_definition, has_developer_fields, has_reserved_bit, local_type, time_offset}
use Rattle.fit_step.specs.Reasons.{least_definition}
use Rattle.fit_record.specs.Records.{message_size}

-- The tests of rooms, each answering whether the room can still be filled. A room is counted after the byte that is judged.
pub record Tests (A : Type 0) : Type 0 where
  -- the room after a data message, at its record header
  pub message : ℕ → Bool
  -- the definition so far, the room, and the number of developer fields
  pub dev_count : MessageDef A → ℕ → ℕ → Bool
  -- the definition so far, how many entries come after this one, the room, and the size
  pub field_size : MessageDef A → ℕ → ℕ → ℕ → Bool
  pub dev_size : MessageDef A → ℕ → ℕ → ℕ → Bool

-- What the next byte is, the number of bytes of the data section that are to come, the record in progress, and the bytes of
-- the number in progress. A data message in progress has all its fields, of which those that haven't begun are without items.
pub record State (A : Type 0) : Type 0 where
  pub phase : Phase
  pub room : ℕ
  pub in_progress : Option (Record A)
  pub partial : List ℕ

-- a state, and the record that has become whole
abbrev pub NextState : Type 0 → Type 0
NextState A = State A × Option (Record A)

abbrev pub Step : Type 0 → Type 0
Step A = Result (NextState A) Reason

-- where a record begins
abbrev pub start : {A : Type 0} → ℕ → State A
start room = record { phase = RecordHeader; room = room; in_progress = None; partial = [] }

abbrev pub defining : {A : Type 0} → DefinitionPhase → ℕ → MessageDef A → State A
defining k room d = record { phase = Definition k; room = room; in_progress = Some (Define d); partial = [] }

abbrev pub reading : {A : Type 0} → Phase → ℕ → Values A → List ℕ → State A
reading k room v partial = record { phase = k; room = room; in_progress = Some (Data v); partial = partial }

-- ---- data messages

-- a field without items so far
abbrev pub no_items : {A : Type 0} → ℕ × ℕ → Items A
no_items f = record { width = item_width f.0 f.1; bits = [] }

-- The next developer field that has bytes, from this place on, or the end. The room is that after the byte read.
abbrev pub begin_dev : {A : Type 0} → ℕ → Values A → ℕ → List (ℕ × ℕ) → NextState A
begin_dev room v place [] = (start room, Some (Data v))
begin_dev room v place (f ∷ rest) =
    if f.1 == 0 then begin_dev room v (suc place) rest
    else (reading (DevItems place (item_width f.0 f.1) f.1) room v [], None)

-- The next field that has bytes, from this place on, or else the first developer field that has.
abbrev pub begin_fields : {A : Type 0} → ℕ → Values A → ℕ → List (ℕ × ℕ) → List (ℕ × ℕ) → NextState A
begin_fields room v place [] dev = begin_dev room v 0 dev
begin_fields room v place (f ∷ rest) dev =
    if f.1 == 0 then begin_fields room v (suc place) rest dev
    else (reading (FieldItems place (item_width f.0 f.1) f.1) room v [], None)

-- one number more in the field of this place
abbrev pub add_number : {A : Type 0} → ℕ → List (Items A) → ℕ → List (Items A)
add_number place [] n = []
add_number zero (i ∷ items) n = record i { bits = i.bits ++ n ∷ [] } ∷ items
add_number (suc place) (i ∷ items) n = i ∷ add_number place items n

-- the fields after these bytes of a number, and the bytes that make no whole number
abbrev pub with_number : {A : Type 0} → Order → ℕ → ℕ → List (Items A) → List ℕ → List (Items A)
with_number order width place items bytes = if length bytes == width then add_number place items (number order bytes) else items

abbrev pub beyond_number : ℕ → List ℕ → List ℕ
beyond_number width bytes = if length bytes == width then [] else bytes

-- code and size of the fields of a local message type, and of its developer fields
abbrev pub layout_at : {A : Type 0} → Environment A → ℕ → List (ℕ × ℕ)
layout_at e local = unwrap_or (option_map layout (defined_at e local)) []

abbrev pub dev_layout_at : {A : Type 0} → Environment A → ℕ → List (ℕ × ℕ)
dev_layout_at e local = unwrap_or (option_map dev_layout (defined_at e local)) []

unfoldable pub field_move : {A : Type 0} → Environment A → ℕ → ℕ → ℕ → ℕ → Values A → List ℕ → ℕ → Step A
field_move e place width left room v partial b =
    let bytes = partial ++ b ∷ [] in
    let w = record v { fields = with_number (order_at e v.local) width place v.fields bytes } in
    if left == 1 then Ok (begin_fields (room - 1) w (suc place) (drop (suc place) (layout_at e v.local)) (dev_layout_at e v.local))
    else Ok (reading (FieldItems place width (left - 1)) (room - 1) w (beyond_number width bytes), None)

unfoldable pub dev_move : {A : Type 0} → Environment A → ℕ → ℕ → ℕ → ℕ → Values A → List ℕ → ℕ → Step A
dev_move e place width left room v partial b =
    let bytes = partial ++ b ∷ [] in
    let w = record v { dev = with_number (order_at e v.local) width place v.dev bytes } in
    if left == 1 then Ok (begin_dev (room - 1) w (suc place) (drop (suc place) (dev_layout_at e v.local)))
    else Ok (reading (DevItems place width (left - 1)) (room - 1) w (beyond_number width bytes), None)

-- ---- definition messages

-- after the fields
abbrev pub after_fields : {A : Type 0} → ℕ → MessageDef A → Option (List DevDef) → NextState A
after_fields room d None = (start room, Some (Define d))
after_fields room d (Some _) = (defining DevCount room d, None)

abbrev pub next_field : {A : Type 0} → ℕ → ℕ → MessageDef A → NextState A
next_field left room d = if left == 0 then after_fields room d d.dev else (defining (FieldNumber left) room d, None)

abbrev pub next_dev : {A : Type 0} → ℕ → ℕ → MessageDef A → NextState A
next_dev left room d = if left == 0 then (start room, Some (Define d)) else (defining (DevNumber left) room d, None)

-- the byte that counts the developer fields
abbrev pub dev_count_byte : Option (List DevDef) → ℕ
dev_count_byte None = 0
dev_count_byte (Some _) = 1

unfoldable pub definition_move : {A : Type 0} → Tests A → DefinitionPhase → ℕ → MessageDef A → ℕ → Step A
definition_move tests Reserved room d b = Ok (defining AtArchitecture (room - 1) (record d { reserved = b }), None)
definition_move tests AtArchitecture room d b =
    if b == 0 then Ok (defining GlobalFirst (room - 1) (record d { order = Little }), None)
    else if b == 1 then Ok (defining GlobalFirst (room - 1) (record d { order = Big }), None)
    else Err Architecture
definition_move tests GlobalFirst room d b = Ok (defining (GlobalSecond b) (room - 1) d, None)
definition_move tests (GlobalSecond first) room d b = Ok (defining FieldCount (room - 1) (record d { global = number d.order (first ∷ b ∷ []) }), None)
definition_move tests FieldCount room d b =
    if nat_lt room (1 + 3 * b + dev_count_byte d.dev) then Err Overrun
    else Ok (next_field b (room - 1) d)
definition_move tests (FieldNumber left) room d b = Ok (defining (FieldSize left b) (room - 1) d, None)
definition_move tests (FieldSize left number) room d b =
    if tests.field_size d (left - 1) (room - 1) b then Ok (defining (FieldCode left number b) (room - 1) d, None)
    else Err NoFit
definition_move tests (FieldCode left number size) room d b =
    Ok (next_field (left - 1) (room - 1) (record d { fields = d.fields ++ (record { number = number; size = size; code = b }) ∷ [] }))
definition_move tests DevCount room d b =
    if nat_lt room (1 + 3 * b) then Err Overrun
    else if tests.dev_count d (room - 1) b then Ok (next_dev b (room - 1) d)
    else Err NoFit
definition_move tests (DevNumber left) room d b = Ok (defining (DevSize left b) (room - 1) d, None)
definition_move tests (DevSize left number) room d b =
    if tests.dev_size d (left - 1) (room - 1) b then Ok (defining (DevIndex left number b) (room - 1) d, None)
    else Err NoFit
definition_move tests (DevIndex left number size) room d b =
    Ok (next_dev (left - 1) (room - 1) (record d { dev = Some (dev_defs d.dev ++ (record { number = number; size = size; index = b }) ∷ []) }))

-- ---- record headers

-- no developer fields so far, or none at all
abbrev pub new_dev : Bool → Option (List DevDef)
new_dev some = if some then Some [] else None

abbrev pub new_definition : {A : Type 0} → ℕ → MessageDef A
new_definition b = record { local = local_type b; reserved = 0; order = Little; global = 0; fields = []; dev = new_dev (has_developer_fields b) }

abbrev pub new_message : {A : Type 0} → ℕ → List (ℕ × ℕ) → List (ℕ × ℕ) → Values A
new_message b fields dev =
    record { local = local_type b; offset = time_offset b; fields = map no_items fields; dev = map no_items dev }

unfoldable pub message_move : {A : Type 0} → Tests A → ℕ → ℕ → Option (Defined A) → Step A
message_move tests room b None = Err UndefinedLocal
message_move tests room b (Some p) =
    if nat_lt room (1 + message_size p) then Err Overrun
    else if tests.message (room - (1 + message_size p)) then Ok (begin_fields (room - 1) (new_message b (layout p) (dev_layout p)) 0 (layout p) (dev_layout p))
    else Err NoFit

unfoldable pub header_move : {A : Type 0} → Environment A → Tests A → ℕ → ℕ → Step A
header_move e tests room b =
    if has_reserved_bit b then Err ReservedBit
    else if is_definition b then
    (if nat_lt room (least_definition b) then Err Overrun
    else Ok (defining Reserved (room - 1) (new_definition b), None))
    else message_move tests room b (defined_at e (local_type b))

-- ---- all of it

-- the definition, or the values, in progress
abbrev pub definition_in_progress : {A : Type 0} → Option (Record A) → MessageDef A
definition_in_progress (Some (Define d)) = d
definition_in_progress _ = new_definition 0

abbrev pub values_of : {A : Type 0} → Option (Record A) → Values A
values_of (Some (Data v)) = v
values_of _ = new_message 0 [] []

abbrev pub step_at : {A : Type 0} → Environment A → Tests A → Phase → State A → ℕ → Step A
step_at e tests RecordHeader s b = header_move e tests s.room b
step_at e tests (Definition k) s b = definition_move tests k s.room (definition_in_progress s.in_progress) b
step_at e tests (FieldItems place width left) s b = field_move e place width left s.room (values_of s.in_progress) s.partial b
step_at e tests (DevItems place width left) s b = dev_move e place width left s.room (values_of s.in_progress) s.partial b

-- what the next byte makes of a state, or why it is refused
unfoldable pub step : {A : Type 0} → Environment A → Tests A → State A → ℕ → Step A
step e tests s b = step_at e tests s.phase s b

-- ---- more than one byte

-- these bytes lead from s to t, with the last of them this record becomes whole, and none before
abbrev pub Ends : {A : Type 0} → Environment A → Tests A → State A → List ℕ → State A → Record A → Type 0
Ends e tests s [] t r = ⊥
Ends {A} e tests s (b ∷ bytes) t r =
    ((bytes ≡ []) × (step e tests s b ≡ Ok (t, Some r)))
    ⊎ ((u : State A) × (step e tests s b ≡ Ok (u, None)) × Ends e tests u bytes t r)

-- no test of rooms refuses one of these bytes, from s on
abbrev pub RoomsFill : {A : Type 0} → Environment A → Tests A → State A → List ℕ → Type 0
RoomsFill e tests s [] = Unit {0}
RoomsFill {A} e tests s (b ∷ bytes) =
    (step e tests s b ≡ Err NoFit → ⊥) × ((u : State A) → step e tests s b ≡ Ok (u, None) → RoomsFill e tests u bytes)

-- ---- the bytes that a record in progress still takes at least

abbrev pub definition_rest : {A : Type 0} → DefinitionPhase → MessageDef A → ℕ
definition_rest Reserved d = 5 + dev_count_byte d.dev
definition_rest AtArchitecture d = 4 + dev_count_byte d.dev
definition_rest GlobalFirst d = 3 + dev_count_byte d.dev
definition_rest (GlobalSecond first) d = 2 + dev_count_byte d.dev
definition_rest FieldCount d = 1 + dev_count_byte d.dev
definition_rest (FieldNumber left) d = 3 + 3 * (left - 1) + dev_count_byte d.dev
definition_rest (FieldSize left number) d = 2 + 3 * (left - 1) + dev_count_byte d.dev
definition_rest (FieldCode left number size) d = 1 + 3 * (left - 1) + dev_count_byte d.dev
definition_rest DevCount d = 1
definition_rest (DevNumber left) d = 3 + 3 * (left - 1)
definition_rest (DevSize left number) d = 2 + 3 * (left - 1)
definition_rest (DevIndex left number size) d = 1 + 3 * (left - 1)

abbrev pub fields_rest : {A : Type 0} → Environment A → ℕ → ℕ → ℕ
fields_rest e place local = sizes (drop (suc place) (layout_at e local)) + sizes (dev_layout_at e local)

abbrev pub dev_rest : {A : Type 0} → Environment A → ℕ → ℕ → ℕ
dev_rest e place local = sizes (drop (suc place) (dev_layout_at e local))

abbrev pub rest_at : {A : Type 0} → Environment A → Phase → State A → ℕ
rest_at e RecordHeader s = 0
rest_at e (Definition k) s = definition_rest k (definition_in_progress s.in_progress)
rest_at e (FieldItems place width left) s = left + fields_rest e place (values_of s.in_progress).local
rest_at e (DevItems place width left) s = left + dev_rest e place (values_of s.in_progress).local

-- For a definition whose counts are still to come, as if they were 0; for a data message just that many.
abbrev pub least_rest : {A : Type 0} → Environment A → State A → ℕ
least_rest e s = rest_at e s.phase s
