-- Why a byte of a record is refused. The room is the number of bytes of the data section that are to come, this byte among them.
use Rattle.std.specs.Prelude.{ℕ, ◌+◌, ◌-◌, ◌*◌, ◌%◌, ◌==◌, if◌then◌else◌, nat_lt, List, [], ◌∷◌, length, Option, Some, None, slice_index}
use Rattle.std.specs.Option.{option_map_or}
use Rattle.fit_frame.specs.declared.reason.Reason.{Reason}
use Rattle.fit_frame.specs.declared.reason.Reason.TheVariants.{NoFit, ReservedBit, UndefinedLocal, Overrun, Architecture}
use Rattle.fit_record.specs.Environment.{Environment, defined_at}
use Rattle.fit_record.specs.Records.{message_size}
use Rattle.fit_record.specs.HeaderByte.{is_definition, has_developer_fields, has_reserved_bit, local_type}

-- the bytes of a definition message without fields and developer fields
abbrev pub least_definition : ℕ → ℕ
least_definition b = if has_developer_fields b then 7 else 6

abbrev pub overrun_or_no_fit : ℕ → ℕ → Reason
overrun_or_no_fit length room = if nat_lt room length then Overrun else NoFit

-- a record header
abbrev pub record_header_reason : {A : Type 0} → Environment A → ℕ → ℕ → Reason
record_header_reason e room b =
    if has_reserved_bit b then ReservedBit
    else if is_definition b then overrun_or_no_fit (least_definition b) room
    else option_map_or (λ p. overrun_or_no_fit (1 + message_size p) room) (defined_at e (local_type b)) UndefinedLocal

-- A byte in a definition message, by what there is of it after the record header: the architecture, the number of fields,
-- the number of developer fields, or the size of either. `proofs/KnownRefusals` of `fit_chain` computes it for a byte of each kind.
abbrev pub definition_reason : ℕ → List ℕ → ℕ → ℕ → Option Reason
definition_reason header_byte bytes room b =
    let place = length bytes in
    let fields_end = 5 + 3 * slice_index bytes 4 in
    if place == 1 then Some Architecture
    else if nat_lt place 4 then None
    else if place == 4 then Some Overrun
    else if nat_lt place fields_end then (if (place - 5) % 3 == 1 then Some NoFit else None)
    else if place == fields_end then Some (overrun_or_no_fit (1 + 3 * b) room)
    else if (place - 1 - fields_end) % 3 == 1 then Some NoFit
    else None

-- a byte after some bytes of a record
abbrev pub record_reason : {A : Type 0} → Environment A → List ℕ → ℕ → ℕ → Option Reason
record_reason e [] room b = Some (record_header_reason e room b)
record_reason e (h ∷ bytes) room b = if is_definition h then definition_reason h bytes room b else None
