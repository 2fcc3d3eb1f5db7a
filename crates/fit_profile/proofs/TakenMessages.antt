-- Data messages that a stream takes in by their bytes, and what it says of them.
use Rattle.fit_profile.proofs.Common.{◌≡◌, ◌∙◌, List, ◌∷◌, inl, inr, false, refl, sym, ap, subst, Option, Some, None, IsSome, same_Some, list_any}
use Rattle.fit_profile.proofs.Common.{Defined, Environment, KeepsRecords, Record, Values, defined_at, describe, known, last_of, tell, told, told_at}
use Rattle.fit_profile.proofs.Common.{DataFits, IsSomeAnd, ℕ}
use Rattle.std.proofs.Common.{option_map}
use Rattle.fit_record.specs.Records.{IsRecord}
use Rattle.fit_record.specs.declared.learn.Description.{Description}
use Rattle.fit_profile.specs.declared.plan.Plan.{Plan}
use Rattle.fit_profile.specs.inner.Plans.{ArePlanned, IsPlanned}
use Rattle.std.specs.Global.{Global}
use Rattle.std.specs.Prelude.{◌⊎◌, ◌==◌, ◌&&◌, slice_index_or}
use Rattle.fit_record.specs.MessageBytes.{message_in}
use Rattle.fit_record.specs.declared.message.Record.TheVariants.{Values as Data}
use Rattle.fit_record.specs.declared.message_bytes.MessageBytes.{MessageBytes}
use Rattle.fit_record.specs.Faults.{or_else}
use Rattle.fit_profile.specs.Accumulated.{is_counter}
use Rattle.fit_profile.specs.Opened.{IsOpened}
use Rattle.fit_profile.specs.Taken.{IsTaken}
use Rattle.fit_profile.specs.Times.{field_time, header_time}
use Rattle.fit_profile.specs.declared.message_bytes.Taken.{Taken}
use Rattle.fit_profile.specs.declared.names.Names.{Names}
use Rattle.fit_profile.specs.declared.told.Last.{Last}
use Rattle.fit_profile.specs.declared.told.Told.{Told}
use Rattle.fit_profile.specs.inner.Alone.{times_alone}
use Rattle.fit_profile.proofs.Kept.{same-definition, told-placed}
use Rattle.fit_profile.proofs.NoCounters.{told-uncounted}

pub some_or_none : {X : Type 0} (o : Option X) → IsSome o ⊎ (o ≡ None)
some_or_none None = inr refl
some_or_none (Some x) = inl refl

-- what is said of the message in its bytes
pub said_of_it : (e : Environment Global) (last : Last) (m : MessageBytes Global) (s : Taken) → defined_at e m.local ≡ Some m.defined.now
    → IsTaken (told_at last m.defined.now.definition (message_in m)) (message_in m) m.defined.now.definition s
    → (v : Values Global) (p : Defined Global) → message_in m ≡ v → defined_at e v.local ≡ Some p → IsTaken (told_at last p.definition v) v p.definition s
said_of_it e last m s here is v p same known_ =
    let d = m.defined.now.definition in
    let one : m.defined.now ≡ p = same_Some m.defined.now p (sym here ∙ ap (λ (x : Values Global). defined_at e x.local) same ∙ known_) in
    let all : IsTaken (told_at last d v) v d s = subst (λ x. IsTaken (told_at last d x) x d s) same is in
    subst (λ (q : Defined Global). IsTaken (told_at last q.definition v) v q.definition s) one all

-- what is told of a message by the last ones that are kept
pub told_inside : {e : Environment Global} {l : Last} {n : Names Global} {xs : List (Record Global)} (now : List (Record Global)) (v : Values Global)
    (p : Defined Global) → KeepsRecords e l n xs → xs ≡ now → defined_at (known now) v.local ≡ Some p → told_at l p.definition v ≡ told now v
told_inside now v p k view known_ = ap (λ x. told_at x p.definition v) (k.last_is ∙ ap last_of view) ∙ told-placed now v p known_

-- the same by the records of which the last ones are kept
pub said_now : {e : Environment Global} {l : Last} {n : Names Global} {xs : List (Record Global)} (now : List (Record Global)) (v : Values Global)
    (p : Defined Global) (s : Taken) → KeepsRecords e l n xs → xs ≡ now → defined_at (known now) v.local ≡ Some p
    → IsTaken (told_at l p.definition v) v p.definition s → IsTaken (told now v) v p.definition s
said_now now v p s k view known_ is = subst (λ t. IsTaken t v p.definition s) (told_inside now v p k view known_) is

pub defined_inside : {e : Environment Global} {l : Last} {n : Names Global} {xs : List (Record Global)} (now : List (Record Global)) (v : Values Global)
    (p : Defined Global) → KeepsRecords e l n xs → xs ≡ now → defined_at (known now) v.local ≡ Some p → defined_at e v.local ≡ Some p
defined_inside now v p k view known_ = ap (λ x. defined_at x v.local) (k.env_is ∙ ap known view) ∙ known_

-- the plan of an opened message is in its place
pub planned_inside : {e : Environment Global} {l : Last} {n : Names Global} {xs : List (Record Global)} (plans : List (Option Plan))
    (now : List (Record Global)) (m : MessageBytes Global) → KeepsRecords e l n xs → xs ≡ now → ArePlanned plans e.places → IsOpened now m
    → IsPlanned (slice_index_or plans m.local None) (Some m.defined.now)
planned_inside plans now m k view are opened =
    subst (IsPlanned (slice_index_or plans m.local None)) (defined_inside now (message_in m) m.defined.now k view opened.defined) (are m.local)

-- a message that was taken in moves no definition
pub still_defined : {A : Type 0} (earlier : List (Record A)) (v : Values A)
    → defined_at (known (Data v ∷ earlier)) v.local ≡ defined_at (known earlier) v.local
still_defined earlier v = same-definition earlier v

-- of a message without counters nothing is told but times
pub times_told : {A : Type 0} (earlier : List (Record A)) (v : Values A) (p : Defined A) → defined_at (known earlier) v.local ≡ Some p
    → (p.definition.global == 20 && list_any (λ f. is_counter f.number) p.definition.fields) ≡ false
    → ((told earlier v).speed ≡ None) × ((told earlier v).distance ≡ None) × ((told earlier v).total_cycles ≡ None)
    × ((told earlier v).accumulated_power ≡ None)
times_told earlier v p known_ none =
    let d = p.definition in
    let last = last_of earlier in
    let t : Told = times_alone (or_else (field_time d v) (header_time last.time v.offset)) (header_time last.time v.offset) in
    let all : told earlier v ≡ t = sym (told-uncounted last d v t none refl ∙ told-placed earlier v p known_) in (
      ap (λ (x : Told). x.speed) all,
      ap (λ (x : Told). x.distance) all,
      ap (λ (x : Told). x.total_cycles) all,
      ap (λ (x : Told). x.accumulated_power) all,
    )

-- what is said of a message is told of it
pub said_is_told : (e : Environment Global) (l : Last) (v : Values Global) (t : Taken) → IsSomeAnd (defined_at e v.local) (DataFits v)
    → ((p : Defined Global) → defined_at e v.local ≡ Some p → IsTaken (told_at l p.definition v) v p.definition t) → Some t.told ≡ tell e l (Data v)
said_is_told e l v t fits said = go (defined_at e v.local) refl fits
  where
    go : (o : Option (Defined Global)) → defined_at e v.local ≡ o → IsSomeAnd o (DataFits v) → Some t.told ≡ option_map (λ p. told_at l p.definition v) o
    go None here fits = absurd fits
    go (Some p) here fits = ap Some (said p here).told

-- ---- after a message the definitions are the same

pub planned_after : (plans : List (Option Plan)) (e : Environment Global) (o : Option Description) → ArePlanned plans e.places
    → ArePlanned plans (describe e o).places
planned_after plans e None are = are
planned_after plans e (Some s) are = are

pub record_after : (e : Environment Global) (o : Option Description) (v : Values Global) (bytes : List ℕ) → IsRecord e (Data v) bytes
    → IsRecord (describe e o) (Data v) bytes
record_after e None v bytes is = is
record_after e (Some s) v bytes is = is
