-- What is found out once of the messages of a definition. No public contract names these definitions.
use Rattle.std.specs.Prelude.{◌≡◌, ◌==◌, ◌≤◌, ◌+◌, ℕ, false, true, List, Option, Some, None, IfSome, IsSomeAnd, drop, length, option_and_then}
use Rattle.std.specs.Prelude.{slice_index_or, take}
use Rattle.std.specs.Global.{Global}
use Rattle.fit_base.specs.Numbers.{number}
use Rattle.fit_base.specs.declared.items.Items.{Items}
use Rattle.fit_base.specs.declared.number.Order.{Order}
use Rattle.fit_record.specs.Environment.{Environment, defined_at}
use Rattle.fit_record.specs.ReadMessages.{fields_from}
use Rattle.fit_record.specs.Records.{sizes}
use Rattle.fit_record.specs.declared.definition.FieldDef.{FieldDef}
use Rattle.fit_record.specs.declared.definition.MessageDef.{MessageDef}
use Rattle.fit_record.specs.declared.environment.Defined.{Defined}
use Rattle.fit_record.specs.declared.message.Record.{Record}
use Rattle.fit_record.specs.declared.message.Record.TheVariants.{Define, Values as Data}
use Rattle.fit_record.specs.declared.message.Values.{Values}
use Rattle.fit_profile.specs.Accumulated.{tells_more}
use Rattle.fit_profile.specs.Looks.{first_field}
use Rattle.fit_profile.specs.Taken.{has_lone_fields}
use Rattle.fit_profile.specs.Times.{time_in_field, valid_time}
use Rattle.fit_profile.specs.declared.plan.Plan.{Plan}
use Rattle.fit_profile.specs.inner.Counters.{ArePlacesOf}
use Rattle.fit_profile.specs.inner.InBytes.{shapes}
use Rattle.fit_profile.specs.inner.Places.{AreFieldPlaces}

-- the time that these fields hold whose bytes begin these
abbrev pub time_of_fields : Order → List FieldDef → List ℕ → Option ℕ
time_of_fields order fields bytes =
    option_and_then (λ f. time_in_field f.0 f.1) (first_field {A = Global} fields (fields_from order (shapes fields) bytes) 253)

-- the time in the four bytes at a place
abbrev pub time_at : Order → Option ℕ → List ℕ → Option ℕ
time_at order place bytes = option_and_then (λ p. valid_time (number order (take 4 (drop p bytes)))) place

-- Messages of this definition tell nothing where their header has no time offset: they have no timestamp, and are neither field
-- descriptions nor record messages, which have counters and rows.
pub record IsSilent (d : MessageDef Global) : Type 0 where
  pub plain : (d.global == 206) ≡ false
  pub other : (d.global == 20) ≡ false
  pub timeless : (items : List (Items Global)) → first_field d.fields items 253 ≡ None

-- This plan is that of the definition: it knows whether a message tells more than a time, whether it describes a developer field, where each
-- field stands, and where its time and its counters do, it may know whether each field is one number, and of some it knows that they are
-- silent.
pub record IsPlan (plan : Plan) (d : MessageDef Global) : Type 0 where
  pub more : plan.tells_more ≡ tells_more d
  pub describes : plan.describes ≡ (d.global == 206)
  pub lone : IfSome plan.has_lone_fields (λ lone. lone ≡ has_lone_fields d)
  pub places : AreFieldPlaces plan.places d.fields
  pub within : IfSome plan.time_place (λ p. p + 4 ≤ sizes (shapes d.fields))
  pub time : (bytes : List ℕ) → time_of_fields d.order d.fields bytes ≡ time_at d.order plan.time_place bytes
  pub counters : ArePlacesOf plan.counters d
  pub silent : plan.is_silent ≡ true → IsSilent d

-- the same of a place that may be empty: there is a plan where there is a definition
abbrev pub IsPlanned : Option Plan → Option (Defined Global) → Type 0
IsPlanned None None = Unit {0}
IsPlanned (Some plan) (Some p) = IsPlan plan p.definition
IsPlanned _ _ = ⊥

-- the same of every place
abbrev pub ArePlanned : List (Option Plan) → List (Option (Defined Global)) → Type 0
ArePlanned plans places = (local : ℕ) → IsPlanned (slice_index_or plans local None) (slice_index_or places local None)

-- there is a place for the plan of the record, where it is a definition
abbrev pub HasRoomFor : List (Option Plan) → Record Global → Type 0
HasRoomFor plans (Define d) = 16 ≤ length plans
HasRoomFor plans (Data v) = Unit {0}

-- a message after which all is as before, but that it came: it has no time offset, and messages of its definition are silent then
abbrev pub IsSilentMessage : Environment Global → Values Global → Type 0
IsSilentMessage e v = (v.offset ≡ None) × IsSomeAnd (defined_at e v.local) (λ p. IsSilent p.definition)
