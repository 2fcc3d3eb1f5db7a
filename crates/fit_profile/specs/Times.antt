-- The time of a message (FIT protocol, "Compressed Timestamp Header").
use Rattle.std.specs.Prelude.{ℕ, ◌-◌, ◌^◌, ◌==◌, ◌&&◌, nat_lt, if◌then◌else◌, List, [], ◌∷◌, Option, Some, None, option_and_then, option_map}
use Rattle.fit_base.specs.declared.items.Items.{Items}
use Rattle.fit_record.specs.declared.definition.FieldDef.{FieldDef}
use Rattle.fit_record.specs.declared.definition.MessageDef.{MessageDef}
use Rattle.fit_record.specs.declared.message.Values.{Values}
use Rattle.fit_record.specs.declared.message.Record.{Record}
use Rattle.fit_record.specs.declared.message.Record.TheVariants.{Define, Values as Data}
use Rattle.fit_record.specs.Environment.{Environment, defined_at, only}
use Rattle.fit_record.specs.Faults.{or_else}
use Rattle.fit_profile.specs.Least.{least_from}
use Rattle.fit_profile.specs.Looks.{known, first_field}

-- a timestamp of 32 bits, of which the greatest number stands for none
abbrev pub valid_time : ℕ → Option ℕ
valid_time n = if nat_lt n 0xFFFFFFFF then Some n else None

-- the time that a field holds, where it is one valid uint32
abbrev pub time_in_field : {A : Type 0} → FieldDef → Items A → Option ℕ
time_in_field f i = if f.code == 0x86 && f.size == 4 then option_and_then valid_time (only i.bits) else None

-- the timestamp of a message: that of its first field 253
abbrev pub field_time : {A : Type 0} → MessageDef A → Values A → Option ℕ
field_time d v = option_and_then (λ f. time_in_field f.0 f.1) (first_field d.fields v.fields 253)

-- the same by the definition of its local message type
abbrev pub own_time : {A : Type 0} → Environment A → Values A → Option ℕ
own_time e v = option_and_then (λ p. field_time p.definition v) (defined_at e v.local)

-- a time that passed the greatest one begins again
abbrev pub in_32_bits : ℕ → ℕ
in_32_bits t = if nat_lt t (2 ^ 32) then t else t - 2 ^ 32

-- The time of a compressed header: the least one at or after the previous timestamp whose low five bits are the offset.
abbrev pub header_time : Option ℕ → Option ℕ → Option ℕ
header_time previous None = None
header_time previous (Some offset) = option_and_then (λ t. option_map in_32_bits (least_from t offset 32)) previous

-- a message's own timestamp, and else the time of its header
abbrev pub time_of : {A : Type 0} → Environment A → Option ℕ → Record A → Option ℕ
time_of e previous (Define d) = None
time_of e previous (Data v) = or_else (own_time e v) (header_time previous v.offset)

-- the time of the last record that has one
abbrev pub previous_time : {A : Type 0} → List (Record A) → Option ℕ
previous_time [] = None
previous_time (r ∷ earlier) = or_else (time_of (known earlier) (previous_time earlier) r) (previous_time earlier)

-- the time of a record after these
abbrev pub time : {A : Type 0} → List (Record A) → Record A → Option ℕ
time earlier r = time_of (known earlier) (previous_time earlier) r
