-- Times and accumulated values of a message, and what of the records before it suffices for them. Of this file public contracts name `told` alone.
use Rattle.std.specs.Prelude.{ℕ, ◌%◌, ◌^◌, List, Option, Some, None, option_map, option_and_then, unwrap_or}
use Rattle.fit_record.specs.declared.definition.MessageDef.{MessageDef}
use Rattle.fit_record.specs.declared.message.Values.{Values}
use Rattle.fit_record.specs.declared.message.Record.{Record}
use Rattle.fit_record.specs.declared.message.Record.TheVariants.{Define, Values as Data}
use Rattle.fit_record.specs.Environment.{Environment, defined_at}
use Rattle.fit_record.specs.Faults.{or_else}
use Rattle.fit_profile.specs.declared.component.Component.{Component}
use Rattle.fit_profile.specs.declared.told.Told.{Told}
use Rattle.fit_profile.specs.declared.told.Last.{Last}
use Rattle.fit_profile.specs.Times.{time, header_time, previous_time, field_time}
use Rattle.fit_profile.specs.Accumulated.{accumulated, next_from, number_of, previous_value, speed, distance, total_cycles, accumulated_power}

-- times and accumulated values of a message after these records
abbrev pub told : {A : Type 0} → List (Record A) → Values A → Told
told earlier v = record {
  time = time earlier (Data v);
  header_time = header_time (previous_time earlier) v.offset;
  speed = speed earlier (Data v);
  distance = accumulated distance earlier (Data v);
  total_cycles = accumulated total_cycles earlier (Data v);
  accumulated_power = accumulated accumulated_power earlier (Data v);
}

-- a definition has neither
abbrev pub told_of : {A : Type 0} → List (Record A) → Record A → Option Told
told_of earlier (Define d) = None
told_of earlier (Data v) = Some (told earlier v)

-- the last time and the last values of these records
abbrev pub last_of : {A : Type 0} → List (Record A) → Last
last_of earlier = record {
  time = previous_time earlier;
  distance = previous_value distance earlier;
  total_cycles = previous_value total_cycles earlier;
  accumulated_power = previous_value accumulated_power earlier;
}

-- the value of a component in a message of this definition, by the previous one
abbrev pub accumulated_at : {A : Type 0} → Component → ℕ → MessageDef A → Values A → Option ℕ
accumulated_at c previous d v = option_and_then (next_from previous c) (number_of c d v)

-- the same from the last ones alone
abbrev pub told_at : {A : Type 0} → Last → MessageDef A → Values A → Told
told_at last d v = record {
  time = or_else (field_time d v) (header_time last.time v.offset);
  header_time = header_time last.time v.offset;
  speed = option_map (λ x. x % 2 ^ 12) (number_of distance d v);
  distance = accumulated_at distance last.distance d v;
  total_cycles = accumulated_at total_cycles last.total_cycles d v;
  accumulated_power = accumulated_at accumulated_power last.accumulated_power d v;
}

-- the same of a record where this is known
abbrev pub tell : {A : Type 0} → Environment A → Last → Record A → Option Told
tell e last (Define d) = None
tell e last (Data v) = option_map (λ p. told_at last p.definition v) (defined_at e v.local)

-- the last ones after a message
abbrev pub last_after : Last → Option Told → Last
last_after last None = last
last_after last (Some t) = record {
  time = or_else t.time last.time;
  distance = unwrap_or t.distance last.distance;
  total_cycles = unwrap_or t.total_cycles last.total_cycles;
  accumulated_power = unwrap_or t.accumulated_power last.accumulated_power;
}
