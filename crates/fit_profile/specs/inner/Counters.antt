-- Counters in the bytes of a message. No public contract names these definitions.
use Rattle.std.specs.Prelude.{◌≡◌, ◌==◌, ◌≤◌, ◌+◌, ◌*◌, ℕ, nat_lt, if◌then◌else◌, List, Option, Some, None, IfSome, drop, option_and_then}
use Rattle.std.specs.Global.{Global}
use Rattle.fit_base.specs.Numbers.{little}
use Rattle.fit_base.specs.declared.number.Order.{Order}
use Rattle.fit_record.specs.ReadMessages.{fields_from, numbers_of}
use Rattle.fit_record.specs.Records.{sizes}
use Rattle.fit_record.specs.declared.definition.FieldDef.{FieldDef}
use Rattle.fit_record.specs.declared.definition.MessageDef.{MessageDef}
use Rattle.fit_profile.specs.Accumulated.{accumulated_power, distance, number_in, total_cycles}
use Rattle.fit_profile.specs.Looks.{first_field}
use Rattle.fit_profile.specs.declared.component.Component.{Component}
use Rattle.fit_profile.specs.declared.counter_places.CounterPlaces.{CounterPlaces}
use Rattle.fit_profile.specs.inner.InBytes.{shapes}

-- the number of a component in fields whose bytes begin these
abbrev pub number_of_fields : Component → Order → List FieldDef → List ℕ → Option ℕ
number_of_fields c order fields bytes =
    option_and_then (λ f. number_in c f.1) (first_field {A = Global} fields (fields_from order (shapes fields) bytes) c.field)

-- a number that counts
abbrev pub counting : Component → ℕ → Option ℕ
counting c n = if nat_lt n c.skipped then Some n else None

-- the number of a component in its items from a place on
abbrev pub number_at : Component → Order → Option ℕ → List ℕ → Option ℕ
number_at c order place bytes = option_and_then (λ p. counting c (little (numbers_of order c.width c.items (drop p bytes)))) place

-- The items of the component's number begin at this place in the bytes of a message. Without a place no message has such a number.
pub record IsPlaceOf (c : Component) (place : Option ℕ) (d : MessageDef Global) : Type 0 where
  pub within : IfSome place (λ p. p + c.items * c.width ≤ sizes (shapes d.fields))
  pub number : (bytes : List ℕ)
      → (if d.global == 20 then number_of_fields c d.order d.fields bytes else None) ≡ number_at c d.order place bytes

-- the same of the three counters
pub record ArePlacesOf (places : CounterPlaces) (d : MessageDef Global) : Type 0 where
  pub distance : IsPlaceOf distance places.distance d
  pub cycles : IsPlaceOf total_cycles places.cycles d
  pub power : IsPlaceOf accumulated_power places.power d
