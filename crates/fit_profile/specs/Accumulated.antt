-- Accumulated values of record messages, global message number 20: a field holds the low bits of a value that only grows (FIT SDK, Profile,
-- columns "Components", "Bits" and "Accumulate").
use Rattle.std.specs.Prelude.{ℕ, ◌/◌, ◌%◌, ◌^◌, ◌==◌, ◌&&◌, ◌||◌, if◌then◌else◌, nat_lt, Bool, List, [], ◌∷◌, length, Option, Some, None}
use Rattle.std.specs.Prelude.{option_and_then, option_map, unwrap_or}
use Rattle.std.specs.List.{list_any}
use Rattle.fit_base.specs.declared.items.Items.{Items}
use Rattle.fit_base.specs.Numbers.{little}
use Rattle.fit_record.specs.declared.definition.MessageDef.{MessageDef}
use Rattle.fit_record.specs.declared.message.Values.{Values}
use Rattle.fit_record.specs.declared.message.Record.{Record}
use Rattle.fit_record.specs.declared.message.Record.TheVariants.{Define, Values as Data}
use Rattle.fit_record.specs.Environment.{Environment, defined_at}
use Rattle.fit_profile.specs.declared.component.Component.{Component}
use Rattle.fit_profile.specs.Least.{least_from}
use Rattle.fit_profile.specs.Looks.{known, first_field}

-- The field of each component, how many items of which width it needs, the number that counts nothing, and the counter: the number divided by
-- the divisor, of that many values.
abbrev pub distance : Component
distance = record { field = 8; items = 3; width = 1; skipped = 0xFFFFFF; divisor = 2 ^ 12; modulus = 2 ^ 12 }

abbrev pub total_cycles : Component
total_cycles = record { field = 18; items = 1; width = 1; skipped = 0xFF; divisor = 1; modulus = 2 ^ 8 }

abbrev pub accumulated_power : Component
accumulated_power = record { field = 28; items = 1; width = 2; skipped = 0xFFFF; divisor = 1; modulus = 2 ^ 16 }

-- The number that items of the right shape make up, the lowest first. The greatest one of its bits counts nothing; any other one is
-- below it, and counts. `proofs/KnownCounters` computes it for known items.
abbrev pub number_in : {A : Type 0} → Component → Items A → Option ℕ
number_in c i =
    if (i.width == c.width && length i.bits == c.items) && nat_lt (little i.bits) c.skipped then Some (little i.bits) else None

-- the number of a component in a record message
abbrev pub number_of : {A : Type 0} → Component → MessageDef A → Values A → Option ℕ
number_of c d v = if d.global == 20 then option_and_then (λ f. number_in c f.1) (first_field d.fields v.fields c.field) else None

-- the number of a component in a record
abbrev pub component : {A : Type 0} → Environment A → Component → Record A → Option ℕ
component e c (Define d) = None
component e c (Data v) = option_and_then (λ p. number_of c p.definition v) (defined_at e v.local)

-- a value below 2 ^ 64
abbrev pub in_64_bits : ℕ → Option ℕ
in_64_bits n = if nat_lt n (2 ^ 64) then Some n else None

-- the least value at or after the previous one that leaves the counter
abbrev pub next_from : ℕ → Component → ℕ → Option ℕ
next_from previous c x = option_and_then in_64_bits (least_from previous (x / c.divisor) c.modulus)

-- the value of a component in a record, by the previous one
abbrev pub accumulated_from : {A : Type 0} → Environment A → ℕ → Component → Record A → Option ℕ
accumulated_from e previous c r = option_and_then (next_from previous c) (component e c r)

-- the last value of a component, or 0
abbrev pub previous_value : {A : Type 0} → Component → List (Record A) → ℕ
previous_value c [] = 0
previous_value c (r ∷ earlier) = unwrap_or (accumulated_from (known earlier) (previous_value c earlier) c r) (previous_value c earlier)

-- the value of a component in a record after these
abbrev pub accumulated : {A : Type 0} → Component → List (Record A) → Record A → Option ℕ
accumulated c earlier r = accumulated_from (known earlier) (previous_value c earlier) c r

-- the low twelve bits of compressed_speed_distance
abbrev pub speed : {A : Type 0} → List (Record A) → Record A → Option ℕ
speed earlier r = option_map (λ x. x % 2 ^ 12) (component (known earlier) distance r)

-- compressed_speed_distance, cycles and compressed_accumulated_power
abbrev pub is_counter : ℕ → Bool
is_counter number = number == 8 || number == 18 || number == 28

-- Messages of this definition tell more than times: they are field descriptions, or records with a counter.
abbrev pub tells_more : {A : Type 0} → MessageDef A → Bool
tells_more d = d.global == 206 || (d.global == 20 && list_any (λ f. is_counter f.number) d.fields)
