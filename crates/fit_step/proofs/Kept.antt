-- Where a reader of records stands, a step leaves it standing.
use Rattle.fit_step.proofs.Common.{◌≡◌, ℕ, ◌+◌, ◌-◌, ◌<◌, Bool, true, false, List, refl, sym, ap, ◌∙◌, subst, arith, Some, None, Ok, Option, IsSomeAnd, Record}
use Rattle.fit_step.proofs.Common.{Environment, Fits, Position, Tests, State, Step, start, step, least_rest, RecordPart, nothing, HasBegun, state_of}
use Rattle.fit_step.proofs.Common.{BeginningsStand, state_at, PartFitsRoom, Steps, KeepsPart, state, Made, ◌≤◌, Err, Phase, Stop, Refused, NoMemory}
use Rattle.fit_step.proofs.Rest.{keeps, KeepsRoom, takes_more}
use Rattle.fit_step.proofs.Runs.{step_goes, step_ends}

-- nothing is in progress only where no part has come
in_progress_is : {A : Type 0} (room : ℕ) (f : RecordPart A) → HasBegun f → (state_of room f).in_progress ≡ None → ⊥
in_progress_is room nothing begun none = begun
in_progress_is room f begun none = cc

-- a record begins
pub stands_start : {A : Type 0} (e : Environment A) (room : ℕ) → PartFitsRoom e (start room)
stands_start e room = record { part = nothing; is_part = tt; is = refl; within = omega arith }

pub beginnings_stand : {A : Type 0} → BeginningsStand A
beginnings_stand {A} e p h =
    let is : state_at p None ≡ start p.room = λ i. record { phase = h.phase i; room = p.room; in_progress = None; partial = h.partial i } in
    subst (PartFitsRoom e) (sym is) (stands_start e p.room)

-- the answer with its position, by the answer's parts
made_steps : {A : Type 0} (p : Position) (whole : Bool) (after : Option (Record A)) (made : Step A) → Made p.phase p.room after p.partial (Ok whole) made
    → Steps after (Ok (p, whole)) made
made_steps p true after made h = h
made_steps p false after made h = h

-- the same of an answer that takes no byte
pub stops_alike : {A : Type 0} (phase : Phase) (room : ℕ) (partial : List ℕ) (why : Stop) (after : Option (Record A)) (made : Step A)
    → Made phase room after partial (Err why) made → Steps after (Err why) made
stops_alike phase room partial (Refused reason) after made h = h
stops_alike phase room partial NoMemory after made h = h

module _ {A : Type 0} (e : Environment A) (tests : Tests A) (b : ℕ) (low : b < 256) where
  at_part : (s : State A) (h : PartFitsRoom e s) (made : Step A) → step e tests s b ≡ made → step e tests (state_of s.room h.part) b ≡ made
  at_part s h made is = ap (λ t. step e tests t b) (sym h.is) ∙ is

  left_of : (s : State A) (h : PartFitsRoom e s) (made : Step A) → step e tests s b ≡ made → KeepsRoom e s.room made
  left_of s h made is =
      subst (KeepsRoom e s.room) (at_part s h made is)
      (keeps e tests s.room h.part b h.is_part (subst (λ t. least_rest e t ≤ s.room) h.is h.within))

  -- a step that leaves a record in progress
  pub still_stands : (s t : State A) → PartFitsRoom e s → step e tests s b ≡ Ok (t, None) → PartFitsRoom e t
  still_stands s t h made =
      let g = step_goes e tests s.room h.part b t h.is_part low (at_part s h (Ok (t, None)) made) in
      let rest = left_of s h (Ok (t, None)) made in
      let room : s.room - 1 ≡ t.room = omega (arith, rest.0) in
      record { part = g.0; is_part = g.1; is = g.3 ∙ ap (λ n. state_of n g.0) room; within = rest.1 }

  -- and room for the next byte
  pub still_room : (s t : State A) → PartFitsRoom e s → step e tests s b ≡ Ok (t, None) → 0 < t.room
  still_room s t h made =
      let g = step_goes e tests s.room h.part b t h.is_part low (at_part s h (Ok (t, None)) made) in
      omega (arith, (left_of s h (Ok (t, None)) made).1, ap (least_rest e) g.3, takes_more e (s.room - 1) g.0 g.1 g.4)

  -- a step with which a record is whole, where nothing stays in progress
  is_whole : (s t : State A) (o : Option (Record A)) → PartFitsRoom e s → t.in_progress ≡ None → step e tests s b ≡ Ok (t, o)
      → IsSomeAnd o (Fits e) × (t ≡ start (s.room - 1))
  is_whole s t None h none made =
      let g = step_goes e tests s.room h.part b t h.is_part low (at_part s h (Ok (t, None)) made) in
      absurd (in_progress_is (s.room - 1) g.0 g.4 (ap (λ (u : State A). u.in_progress) (sym g.3) ∙ none))
  is_whole s t (Some r) h none made =
      let k = step_ends e tests s.room h.part b t r h.is_part low (at_part s h (Ok (t, Some r)) made) in (k.0, k.2)

  step_keeps : (s : State A) (p : Position) (whole : Bool) (after : Option (Record A)) → PartFitsRoom e s → Steps after (Ok (p, whole)) (step e tests s b)
      → KeepsPart e after (p, whole)
  step_keeps s p true after h made =
      let k = is_whole s (state_at p None) after h refl made in
      (k.0, record { phase = ap (λ (u : State A). u.phase) k.1; partial = ap (λ (u : State A). u.partial) k.1 })
  step_keeps s p false after h made = still_stands s (state_at p after) h made

  -- one byte of the room has come
  step_room : (s : State A) (p : Position) (whole : Bool) (after : Option (Record A)) → 0 < s.room → PartFitsRoom e s
      → Steps after (Ok (p, whole)) (step e tests s b) → p.room + 1 ≡ s.room
  step_room s p true after some h made =
      let k = is_whole s (state_at p None) after h refl made in
      let left : p.room ≡ s.room - 1 = ap (λ (u : State A). u.room) k.1 in
      omega (arith, left, some)
  step_room s p false after some h made = (left_of s h (Ok (state_at p after, None)) made).0

  -- what a step of the code made, by its parts
  pub step_made : (p q : Position) (before after : Option (Record A)) (l : List ℕ) (whole : Bool) → l ≡ p.partial
      → Made q.phase q.room after q.partial (Ok whole) (step e tests (state p.phase p.room before l) b)
      → Steps after (Ok (q, whole)) (step e tests (state_at p before) b)
  step_made p q before after l whole same made =
      made_steps q whole after (step e tests (state_at p before) b)
      (subst (λ k. Made q.phase q.room after q.partial (Ok whole) (step e tests (state p.phase p.room before k) b)) same made)

  -- and what it leaves
  pub step_leaves : (p q : Position) (before after : Option (Record A)) (l : List ℕ) (whole : Bool) → l ≡ p.partial → 0 < p.room
      → PartFitsRoom e (state_at p before) → Made q.phase q.room after q.partial (Ok whole) (step e tests (state p.phase p.room before l) b)
      → KeepsPart e after (q, whole) × (q.room + 1 ≡ p.room)
  step_leaves p q before after l whole same some h made =
      let steps = step_made p q before after l whole same made in
      (step_keeps (state_at p before) q whole after h steps, step_room (state_at p before) q whole after some h steps)
