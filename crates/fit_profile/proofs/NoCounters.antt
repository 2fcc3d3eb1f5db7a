-- A message without a field for a component has no number of it.
use Rattle.fit_profile.proofs.Common.{◌≡◌, ℕ, List, ◌∷◌, None, true, false, inl, inr, refl, ap, sym, ◌∙◌, list_any, cases_Bool, or_parts, both_ways, Items}
use Rattle.fit_profile.proofs.Common.{FieldDef, MessageDef, Values, first_field, number_in, number_of, Some, told_at, last_after, tell}
use Rattle.fit_profile.proofs.Common.{Defined, Environment, defined_at, described_by, description, option_and_then, if◌then◌else◌}
use Rattle.std.proofs.Common.{◌==◌, ◌&&◌}
use Rattle.std.specs.Prelude.{◌||◌}
use Rattle.std.specs.Global.{Global}
use Rattle.fit_record.specs.ReadMessages.{fields_from}
use Rattle.fit_record.specs.declared.message.Record.TheVariants.{Values as Data}
use Rattle.std.proofs.lemmas.Bool.{eqb-true}
use Rattle.fit_profile.specs.declared.component.Component.{Component}
use Rattle.fit_record.specs.Faults.{or_else}
use Rattle.fit_profile.specs.Accumulated as sums
use Rattle.fit_profile.specs.Times.{field_time, header_time}
use Rattle.fit_profile.specs.declared.told.Last.{Last}
use Rattle.fit_profile.specs.declared.told.Told.{Told}
use Rattle.fit_profile.specs.Accumulated.{is_counter, tells_more}
use Rattle.fit_profile.specs.inner.Counters.{ArePlacesOf, IsPlaceOf}
use Rattle.fit_profile.specs.inner.InBytes.{shapes}

no-field : {A : Type 0} (fields : List FieldDef) (items : List (Items A)) (number : ℕ) → is_counter number ≡ true
    → list_any (λ f. is_counter f.number) fields ≡ false → first_field fields items number ≡ None
no-field (f ∷ fields) (i ∷ items) number is none =
    let parts = or_parts (is_counter f.number) (list_any (λ g. is_counter g.number) fields) none in
    elim (cases_Bool (f.number == number)) [
      | inl same ↦ absurd (both_ways (is_counter number) (ap is_counter (sym (eqb-true f.number number same)) ∙ parts.0) is)
      | inr other ↦ rw other (no-field fields items number is parts.1)
    ]
no-field _ _ number is none = refl

-- by the items of its fields, and by its values
pub no-number_in : {A : Type 0} (c : Component) (d : MessageDef A) (items : List (Items A)) → is_counter c.field ≡ true
    → (d.global == 20 && list_any (λ f. is_counter f.number) d.fields) ≡ false
    → (if d.global == 20 then option_and_then (λ f. number_in c f.1) (first_field d.fields items c.field) else None) ≡ None
no-number_in c d items is none = elim (cases_Bool (d.global == 20)) [
  | inl record_message ↦ rw (record_message, no-field d.fields items c.field is (rw record_message at none)) refl
  | inr other ↦ rw other refl
]

pub no-number : {A : Type 0} (c : Component) (d : MessageDef A) (v : Values A) → is_counter c.field ≡ true
    → (d.global == 20 && list_any (λ f. is_counter f.number) d.fields) ≡ false → number_of c d v ≡ None
no-number c d v is none = no-number_in c d v.fields is none

-- such messages have a number of it at no place
pub no-place : (c : Component) (d : MessageDef Global) → is_counter c.field ≡ true
    → (d.global == 20 && list_any (λ f. is_counter f.number) d.fields) ≡ false → IsPlaceOf c None d
no-place c d is none = record {
  within = tt;
  number = λ bytes. no-number_in c d (fields_from d.order (shapes d.fields) bytes) is none;
}

pub no-places : (d : MessageDef Global) → (d.global == 20 && list_any (λ f. is_counter f.number) d.fields) ≡ false
    → ArePlacesOf (record { distance = None; cycles = None; power = None }) d
no-places d none = record {
  distance = no-place sums.distance d refl none;
  cycles = no-place sums.total_cycles d refl none;
  power = no-place sums.accumulated_power d refl none;
}

-- the last ones after such a message are as before, but for the time
pub only-time : {A : Type 0} (last : Last) (d : MessageDef A) (v : Values A) → (d.global == 20 && list_any (λ f. is_counter f.number) d.fields) ≡ false
    → record last { time = or_else (or_else (field_time d v) (header_time last.time v.offset)) last.time } ≡ last_after last (Some (told_at last d v))
only-time last d v none =
    rw (no-number sums.distance d v refl none, no-number sums.total_cycles d v refl none, no-number sums.accumulated_power d v refl none) refl

-- of such a message nothing is told but its times
pub told-uncounted : {A : Type 0} (last : Last) (d : MessageDef A) (v : Values A) (t : Told)
    → (d.global == 20 && list_any (λ f. is_counter f.number) d.fields) ≡ false
    → t ≡ record {
      time = or_else (field_time d v) (header_time last.time v.offset);
      header_time = header_time last.time v.offset;
      speed = None;
      distance = None;
      total_cycles = None;
      accumulated_power = None;
    }
    → t ≡ told_at last d v
told-uncounted last d v t none e =
    let distance = no-number sums.distance d v refl none in
    let cycles = no-number sums.total_cycles d v refl none in
    let power = no-number sums.accumulated_power d v refl none in
    e ∙ sym (rw (distance, cycles, power) refl)

-- neither a field description nor a message with counters
pub parts : {A : Type 0} (d : MessageDef A) → (d.global == 206 || (d.global == 20 && list_any (λ f. is_counter f.number) d.fields)) ≡ false
    → ((d.global == 206) ≡ false) × ((d.global == 20 && list_any (λ f. is_counter f.number) d.fields) ≡ false)
parts d none = or_parts (d.global == 206) (d.global == 20 && list_any (λ f. is_counter f.number) d.fields) none

pub tells : {A : Type 0} (e : Environment A) (p : Defined A) (l : Last) (v : Values A) → defined_at e v.local ≡ Some p
    → tell e l (Data v) ≡ Some (told_at l p.definition v)
tells e p l v known = rw known refl

pub describes-nothing : {A : Type 0} (e : Environment A) (p : Defined A) (v : Values A) → defined_at e v.local ≡ Some p → (p.definition.global == 206) ≡ false
    → described_by e v ≡ None
describes-nothing e p v known other = rw (known, other) refl

-- a message of which its definition says that it describes nothing
pub described_none : (e : Environment Global) (p : Defined Global) (v : Values Global) → defined_at e v.local ≡ Some p → description p.definition v ≡ None
    → described_by e v ≡ None
described_none e p v known none = ap (option_and_then (λ q. description q.definition v)) known ∙ none

pub none_described : (e : Environment Global) (p : Defined Global) (v : Values Global) → defined_at e v.local ≡ Some p → described_by e v ≡ None
    → description p.definition v ≡ None
none_described e p v known none = sym (ap (option_and_then (λ q. description q.definition v)) known) ∙ none
