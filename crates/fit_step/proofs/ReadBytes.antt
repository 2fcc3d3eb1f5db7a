-- What a byte of a piece makes of a record in progress, and what was read of the piece.
use Rattle.fit_step.proofs.Common.{◌≡◌, ℕ, ◌+◌, ◌-◌, ◌<◌, append_assoc, inl, Bool, true, false, List, [], ◌∷◌, ◌++◌}
use Rattle.fit_step.proofs.Common.{length, take, refl, sym, ap, ◌∙◌, subst, arith}
use Rattle.fit_step.proofs.Common.{Some, None, Ok, Err, Option, Result, OnOk, OnErr, take_more, Record, Environment, learn, Fits, Position, Stop, Refused}
use Rattle.fit_step.proofs.Common.{NoMemory, State, Step, step, state_at, Steps, KeepsPart, tests_of, CanFill, IsRecord, length-take-le}
use Rattle.fit_step.proofs.Common.{StandsAfter, IsInProgress, ReadsRecord, StandsWithRoom, RecordByte, TakesByte, ◌≤◌, slice_index}
use Rattle.fit_step.specs.InProgress.{Reads, ReadsInPlace}
use Rattle.fit_step.specs.inner.Whole.{StandsWhole}
use Rattle.std.specs.Result.{is_ok}
use Rattle.fit_step.proofs.Kept.{still_stands, still_room}
use Rattle.fit_step.proofs.RecordsInProgress.{EndsWithRecord, starts_after, sixteen_learned, starts_where_none, goes_after, ends_after, wants_after}
use Rattle.fit_step.proofs.RecordsInProgress.{refused_after, none_come, all_left, next_begins, sixteen_places}

-- what holds of a good answer, and of a fault
pub when_ok : {X Y P : Type 0} (r : Result X Y) → OnOk r P → is_ok r ≡ true → P
when_ok (Ok x) h is = h
when_ok (Err y) h is = absurd cc

pub when_err : {X Y P : Type 0} (r : Result X Y) → OnErr r P → is_ok r ≡ false → P
when_err (Ok x) h is = absurd cc
when_err (Err y) h is = h

pub stands_on : {A : Type 0} (e : Environment A) (s t : State A) (b : ℕ) → b < 256 → StandsWithRoom e s → step e (tests_of e) s b ≡ Ok (t, None)
    → StandsWithRoom e t
stands_on e s t b low h made = (still_room e (tests_of e) b low s t h.1 made, still_stands e (tests_of e) b low s t h.1 made)

-- a step with which the record in progress is whole
pub step_whole : {A : Type 0} (e : Environment A) (after : Option (Record A)) (p : Position) (w : Bool) (made : Step A) → w ≡ true
    → Steps after (Ok (p, w)) made → KeepsPart e after (p, w)
    → (r : Record A) × (after ≡ Some r) × Fits e r × (made ≡ Ok (state_at p None, Some r))
step_whole e after p false made is steps keeps = absurd cc
step_whole e None p true made is steps keeps = absurd keeps.0
step_whole e (Some r) p true made is steps keeps = (r, refl, keeps.0, steps)

-- a byte with which a record goes on, and one with which it is whole
pub byte_goes : {A : Type 0} (old new : Environment A) (p : Position) (in_progress : Option (Record A)) (b : ℕ) (whole : Bool) (made : Step A)
    → whole ≡ false → TakesByte old new p in_progress b (Ok whole) made → RecordByte old new (state_at p in_progress) b (Ok None) made
byte_goes old new p in_progress b false made is takes = takes
byte_goes old new p in_progress b true made is takes = absurd cc

pub byte_ends : {A : Type 0} (old new : Environment A) (p : Position) (in_progress : Option (Record A)) (b : ℕ) (whole : Bool) (made : Step A)
    → whole ≡ true → TakesByte old new p in_progress b (Ok whole) made
    → (r : Record A) × (in_progress ≡ Some r) × RecordByte old new (state_at p None) b (Ok (Some r)) made
byte_ends old new p in_progress b true made is takes = takes
byte_ends old new p in_progress b false made is takes = absurd cc

-- ---- what was read

-- the last byte used ended a record
pub whole_read : {A : Type 0} (e env : Environment A) (room : ℕ) (bytes piece : List ℕ) (used : ℕ) (p : Position) (in_progress : Option (Record A))
    (r : Record A) → 0 < used → used ≤ length piece → length e.places ≡ 16 → env ≡ learn e r
    → EndsWithRecord e room (bytes ++ take used piece) r (state_at p in_progress) → ReadsRecord e env room bytes p in_progress piece used (Ok (Some r))
whole_read e env room bytes piece used p in_progress r some within sixteen learned k = (
  some,
  within,
  learned,
  k.is_record,
  k.within,
  inl (subst (λ f. StandsAfter f (room - length (bytes ++ take used piece)) [] (state_at p in_progress)) (sym learned)
      (subst (StandsAfter (learn e r) (room - length (bytes ++ take used piece)) []) (sym k.starts)
      (starts_after (learn e r) (room - length (bytes ++ take used piece)) (sixteen_learned e r sixteen) k.filled))),
)

-- a record that is whole at the front of the piece, where none is in progress: the next one begins at `p`, with less room
pub whole_at_front : {A : Type 0} (e env : Environment A) (p : Position) (in_progress : Option (Record A)) (piece : List ℕ) (r : Record A) (used : ℕ)
    → in_progress ≡ None → StandsWhole e p.room piece r used → env ≡ learn e r
    → Reads e p in_progress env (record p { room = p.room - used }) in_progress piece used (Ok (Some r))
whole_at_front {A} e env p in_progress piece r used idle k learned room bytes h =
    let all = all_left e room bytes p in_progress h idle in
    let whole : take used piece ≡ bytes ++ take used piece = ap (λ y. y ++ take used piece) (sym (none_come e room bytes p in_progress h idle)) in
    let size : length (bytes ++ take used piece) ≡ used = ap length (sym whole) ∙ length-take-le used piece k.within in
    let places = sixteen_places e room bytes p in_progress h in
    let sixteen : length env.places ≡ 16 = subst (λ (f : Environment A). length f.places ≡ 16) (sym learned) (sixteen_learned e r places) in
    let fills = subst (λ (f : Environment A). CanFill f (p.room - used)) (sym learned) (k.fills places) in (
      k.some,
      k.within,
      learned,
      subst (IsRecord e r) whole k.spelled,
      omega (arith, size, all, k.enough),
      subst (λ n. IsInProgress env (room - n) [] (record p { room = p.room - used }) in_progress) (sym size)
          (next_begins e room bytes p in_progress h idle env used sixteen fills),
    )

-- a byte of the piece, after those of which this is the state
module _ {A : Type 0} (e now env : Environment A) (room : ℕ) (bytes piece : List ℕ) (i : ℕ) (p q : Position) (before after : Option (Record A))
    (within : i < length piece) (low : slice_index piece i < 256) (known : now ≡ e)
    (come : StandsAfter now room (bytes ++ take i piece) (state_at p before)) where
  abbrev b : ℕ
  b = slice_index piece i

  one : (bytes ++ take i piece) ++ b ∷ [] ≡ bytes ++ take (i + 1) piece
  one = append_assoc bytes (take i piece) (b ∷ []) ∙ ap (λ z. bytes ++ z) (sym (take_more piece i 0 within))

  pub record_ends : (r : Record A) → RecordByte now env (state_at q after) b (Ok (Some r)) (step now (tests_of now) (state_at p before) b)
      → ReadsRecord e env room bytes q after piece (i + 1) (Ok (Some r))
  record_ends r made =
      let k = ends_after now room (bytes ++ take i piece) (state_at p before) come b low (state_at q after) r made.1 in
      subst (λ x. ReadsRecord x env room bytes q after piece (i + 1) (Ok (Some r))) known
      (whole_read now env room bytes piece (i + 1) q after r (omega arith) (omega (arith, within)) come.sixteen made.0
      (subst (λ z. EndsWithRecord now room z r (state_at q after)) one k))

  pub record_stops : (stop : Stop) → state_at q after ≡ state_at p before → 0 < p.room
      → RecordByte now env (state_at q after) b (Err stop) (step now (tests_of now) (state_at p before) b)
      → ReadsRecord e env room bytes q after piece i (Err stop)
  record_stops (Refused reason) same some made =
      let law = refused_after now room (bytes ++ take i piece) (state_at p before) come b low some reason made.1 in
      subst (λ x. ReadsRecord x env room bytes q after piece i (Err (Refused reason))) known
      (within, made.0, inl (subst (StandsAfter now room (bytes ++ take i piece)) (sym same) come), law.0, law.1)
  record_stops NoMemory same some made =
      let there = subst (StandsAfter now room (bytes ++ take i piece)) (sym same) come in
      subst (λ x. ReadsRecord x env room bytes q after piece i (Err NoMemory)) known (
        within,
        made.0,
        inl there,
        wants_after now room (bytes ++ take i piece) (state_at p before) come b low made.1,
        λ none. made.2 (ap (λ (s : State A). s.phase) (starts_where_none now room (bytes ++ take i piece) (state_at q after) there none)),
      )

  pub record_goes : RecordByte now env (state_at q after) b (Ok None) (step now (tests_of now) (state_at p before) b)
      → StandsAfter env room (bytes ++ take (i + 1) piece) (state_at q after)
  record_goes made =
      subst (λ x. StandsAfter x room (bytes ++ take (i + 1) piece) (state_at q after)) (sym made.0)
      (subst (λ z. StandsAfter now room z (state_at q after)) one
      (goes_after now room (bytes ++ take i piece) (state_at p before) come b low (state_at q after) made.1))

-- what was made of a record in its place, told of what stood before
module _ {A : Type 0} (now old env : Environment A) (before first after : Position) (idle in_progress : Option (Record A)) (piece : List ℕ) (used : ℕ)
    (answer : Result Bool Stop) where
  pub from_old : now ≡ old → before ≡ first → ReadsInPlace now before idle env after in_progress piece used answer
      → ReadsInPlace old first idle env after in_progress piece used answer
  from_old known there reads =
      subst (λ (e : Environment A). ReadsInPlace e first idle env after in_progress piece used answer) known
      (subst (λ (p : Position). ReadsInPlace now p idle env after in_progress piece used answer) there reads)

  module _ (reads : ReadsInPlace now before idle env after in_progress piece used answer) where
    told_as : (is : Result Bool Stop) → answer ≡ is → ReadsInPlace now before idle env after in_progress piece used is
    told_as is same = subst (ReadsInPlace now before idle env after in_progress piece used) same reads

    pub tells_more : (whole : Bool) → answer ≡ Ok whole → whole ≡ false → Reads now before idle env after in_progress piece used (Ok None)
    tells_more whole is other = told_as (Ok false) (is ∙ ap Ok other)

    pub tells_in_place : (whole : Bool) → answer ≡ Ok whole → whole ≡ true → ReadsInPlace now before idle env after in_progress piece used (Ok true)
    tells_in_place whole is all = told_as (Ok true) (is ∙ ap Ok all)

    pub tells_stop : (stop : Stop) → answer ≡ Err stop → Reads now before idle env after in_progress piece used (Err stop)
    tells_stop stop is = told_as (Err stop) is
