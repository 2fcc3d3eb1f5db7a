-- Where a reader of records stands, the code's steps get what they ask for.
use Rattle.fit_step.proofs.Common.{◌≡◌, inl, inr, ◌⊎◌, ℕ, suc, ◌+◌, Bool, true, false, cond, List, [], ◌∷◌, length, refl, sym, ap, ◌∙◌, subst, arith}
use Rattle.fit_step.proofs.Common.{length-append, Some, None, Ok, Err, Option, Result, IfSome, ◌||◌, or_cases, eqb-true, length-map, base_type, base_types}
use Rattle.fit_step.proofs.Common.{byte, item_width, found_passes, FieldDef, MessageDef, Defined, Define, Data, Values, Environment, defined_at, dev_defs}
use Rattle.fit_step.proofs.Common.{layout, dev_layout, length-dev_layout, Phase, DefinitionPhase, Definition, FieldItems, DevItems, Stop, Refused, NoMemory}
use Rattle.fit_step.proofs.Common.{Tests, State, Step, definition_in_progress, values_of, step, step_at, RecordPart, in_definition, in_fields, in_dev_fields}
use Rattle.fit_step.proofs.Common.{TakenFields, IsTaking, IsPart, state_of, width_of, PartFitsRoom, state, Made, Defines, DefinesAt, ReadsAt, IsInField, ◌==◌}
use Rattle.fit_step.proofs.Common.{Record, RecordHeader, nothing, header_move}
use Rattle.fit_step.specs.Places.{WantsNone}
use Rattle.fit_step.specs.inner.Steps.{Enters}
use Rattle.fit_record.specs.Sound.{IsSound}
use Rattle.fit_step.proofs.Preconditions.{is_defining, as_defined}

-- ---- widths

abbrev is_width : ℕ → Bool
is_width w = (w == 1) || ((w == 2) || ((w == 4) || (w == 8)))

abbrev IsWidth : ℕ → Type 0
IsWidth w = (w ≡ 1) ⊎ ((w ≡ 2) ⊎ ((w ≡ 4) ⊎ (w ≡ 8)))

tested : (w : ℕ) → is_width w ≡ true → IsWidth w
tested w h =
    elim (or_cases (w == 1) _ h) [
      | inl a ↦ inl (eqb-true w 1 a)
      | inr a ↦ inr (elim (or_cases (w == 2) _ a) [
        | inl b ↦ inl (eqb-true w 2 b)
        | inr b ↦ inr (elim (or_cases (w == 4) _ b) [ inl c ↦ inl (eqb-true w 4 c) | inr c ↦ inr (eqb-true w 8 c) ])
      ])
    ]

base_width : (code : ℕ) → IsWidth (base_type code).width
base_width code = tested (base_type code).width (found_passes (λ t. t.code == code) (λ t. is_width t.width) byte base_types refl refl)

one_of : (c : Bool) (w : ℕ) → IsWidth w → IsWidth (cond c w 1)
one_of true w h = h
one_of false w h = inl refl

pub width_is : (code size : ℕ) → IsWidth (item_width code size)
width_is code size = one_of _ (base_type code).width (base_width code)

-- ---- where a field is read

reading_at : {A : Type 0} (all : List (ℕ × ℕ)) (t : TakenFields A) → IsTaking all t → IsInField (length all) (length t.done) (width_of t) t.left t.partial
reading_at all t s =
    let listed : length all ≡ length t.done + suc (length t.to_come) = ap length s.layout ∙ length-append t.done (t.field ∷ t.to_come) in
    record { place = omega (arith, listed); width = width_is t.field.0 t.field.1; short = s.short; some = s.some }

as_many_fields : {A : Type 0} (p : Defined A) → length (layout p) ≡ length p.definition.fields
as_many_fields p = length-map p.definition.fields (λ (f : FieldDef). (f.code, f.size))

as_many_dev : {A : Type 0} (p : Defined A) → IsSound p → length (dev_layout p) ≡ length (dev_defs p.definition.dev)
as_many_dev p h = length-dev_layout p.dev_codes (dev_defs p.definition.dev) h.codes

-- ---- what stands in progress

abbrev DefinesIn : {A : Type 0} → State A → Type 0
DefinesIn s = DefinesAt s.phase (definition_in_progress s.in_progress)

abbrev ReadsIn : {A : Type 0} → Environment A → State A → Type 0
ReadsIn e s = ReadsAt e s.phase (values_of s.in_progress) s.partial

module _ {A : Type 0} (e : Environment A) (phase : Phase) (room : ℕ) (partial : List ℕ) where
  definition_in : (d : MessageDef A) (f : RecordPart A) → IsPart e f → state phase room (Some (Define d)) partial ≡ state_of room f
      → DefinesAt phase d × (partial ≡ [])
  definition_in d (in_definition k c) h is = (subst DefinesIn (sym is) (is_defining k c h), ap (λ (s : State A). s.partial) is)
  definition_in d f h is = absurd (let other = ap (λ (s : State A). s.in_progress) is in cc)

  same_state : {o r : Option (Record A)} → o ≡ r → state phase room r partial ≡ state phase room o partial
  same_state is = λ i. state phase room (sym is i) partial

  pub stands_define : (o : Option (Record A)) (d : MessageDef A) → o ≡ Some (Define d) → PartFitsRoom e (state phase room o partial)
      → DefinesAt phase d × (partial ≡ [])
  stands_define o d is h = definition_in d h.part h.is_part (same_state is ∙ h.is)

  message_in : (v : Values A) (f : RecordPart A) → IsPart e f → state phase room (Some (Data v)) partial ≡ state_of room f → ReadsAt e phase v partial
  message_in v (in_fields local offset t dev) (p, known, header, s, same) is =
      subst (ReadsIn e) (sym is) (
        p,
        known,
        subst (λ n. IsInField n (length t.done) (width_of t) t.left t.partial) (as_many_fields p) (reading_at (layout p) t s),
        as_defined (layout p) t s ∙ as_many_fields p,
      )
  message_in v (in_dev_fields local offset items t) (p, known, header, shapes, s) is =
      subst (ReadsIn e) (sym is) (p, known, reading_at (dev_layout p) t s, as_defined (dev_layout p) t s)
  message_in v f h is = absurd (let other = ap (λ (s : State A). s.in_progress) is in cc)

  pub stands_values : (o : Option (Record A)) (v : Values A) → o ≡ Some (Data v) → PartFitsRoom e (state phase room o partial) → ReadsAt e phase v partial
  stands_values o v is h = message_in v h.part h.is_part (same_state is ∙ h.is)

  nothing_in : (f : RecordPart A) → state phase room None partial ≡ state_of room f → (phase ≡ RecordHeader) × (partial ≡ [])
  nothing_in nothing is = (ap (λ (s : State A). s.phase) is, ap (λ (s : State A). s.partial) is)
  nothing_in f is = absurd (let other = ap (λ (s : State A). s.in_progress) is in cc)

  pub stands_nothing : (o : Option (Record A)) → o ≡ None → PartFitsRoom e (state phase room o partial) → (phase ≡ RecordHeader) × (partial ≡ [])
  stands_nothing o is h = nothing_in h.part (same_state is ∙ h.is)

-- ---- what the code's steps make of the state

module _ {A : Type 0} (e : Environment A) (tests : Tests A) (phase after : Phase) (room left : ℕ) (partial : List ℕ) (b : ℕ) (o : Option (Record A)) where
  defines_is : (d : MessageDef A) (result : Result Bool Stop) (made : Step A) → partial ≡ [] → Defines after left d result made
      → Made after left (Some (Define d)) partial result made
  defines_is d (Ok true) made none is = is ∙ ap (λ p. Ok (state after left None p, Some (Define d))) (sym none)
  defines_is d (Ok false) made none is = is ∙ ap (λ p. Ok (state after left (Some (Define d)) p, None)) (sym none)
  defines_is d (Err (Refused reason)) made none is = is
  defines_is d (Err NoMemory) made none is = is

  pub definition_taken : (d c : MessageDef A) (result : Result Bool Stop) → o ≡ Some (Define d) → partial ≡ []
      → Defines after left c result (step_at e tests phase (state phase room (Some (Define d)) []) b)
      → Made after left (Some (Define c)) partial result (step e tests (state phase room o partial) b)
  unfolding step
  definition_taken d c result is none h =
      let same : state phase room (Some (Define d)) [] ≡ state phase room o partial = λ i. state phase room (sym is i) (sym none i) in
      defines_is c result _ none (subst (λ s. Defines after left c result (step_at e tests phase s b)) same h)

  pub message_taken : (v w : Values A) (bytes : List ℕ) (result : Result Bool Stop) → o ≡ Some (Data v)
      → Made after left (Some (Data w)) bytes result (step_at e tests phase (state phase room (Some (Data v)) partial) b)
      → Made after left (Some (Data w)) bytes result (step e tests (state phase room o partial) b)
  unfolding step
  message_taken v w bytes result is h =
      subst (λ q. Made after left (Some (Data w)) bytes result (step_at e tests phase (state phase room q partial) b)) (sym is) h

  entered_is : (r : Record A) (whole : Bool) (made : Step A) → partial ≡ [] → Enters after left (Ok (r, whole)) made
      → Made after left (Some r) partial (Ok whole) made
  entered_is r true made none is = is ∙ ap (λ p. Ok (state after left None p, Some r)) (sym none)
  entered_is r false made none is = is ∙ ap (λ p. Ok (state after left (Some r) p, None)) (sym none)

  refused_is : (why : Stop) (made : Step A) → Enters after left (Err why) made → Made after left o partial (Err why) made
  refused_is (Refused reason) made is = is
  refused_is NoMemory made is = is

  module _ (idle : o ≡ None) (stands : PartFitsRoom e (state phase room o partial)) where
    at_header : header_move e tests room b ≡ step e tests (state phase room o partial) b
    unfolding step
    at_header = ap (λ k. step_at e tests k (state phase room o partial) b) (sym (stands_nothing e phase room partial o idle stands).0)

    pub header_taken : (r : Record A) (whole : Bool) → Enters after left (Ok (r, whole)) (header_move e tests room b)
        → Made after left (Some r) partial (Ok whole) (step e tests (state phase room o partial) b)
    header_taken r whole is =
        entered_is r whole _ (stands_nothing e phase room partial o idle stands).1 (subst (Enters after left (Ok (r, whole))) at_header is)

    pub header_refused : (why : Stop) → Enters after left (Err why) (header_move e tests room b)
        → Made after left o partial (Err why) (step e tests (state phase room o partial) b)
    header_refused why is = refused_is why _ (subst (Enters after left (Err why)) at_header is)

-- an answer wants no memory where another one that stops so wants none
pub wants_none : (X Y : Type 0) (why : Stop) → WantsNone {X = X} (Err why) → WantsNone {X = Y} (Err why)
wants_none X Y (Refused reason) h = h
wants_none X Y NoMemory h = h

-- ---- at a phase that is known

pub not_defining : {A : Type 0} (phase : Phase) (d : MessageDef A) → DefinesAt phase d → ((k : DefinitionPhase) → phase ≡ Definition k → ⊥) → ⊥
not_defining (Definition k) d h other = other k refl
not_defining phase d h other = h

pub not_reading : {A : Type 0} (e : Environment A) (phase : Phase) (v : Values A) (partial : List ℕ) → ReadsAt e phase v partial
    → ((place width left : ℕ) → phase ≡ FieldItems place width left → ⊥) → ((place width left : ℕ) → phase ≡ DevItems place width left → ⊥) → ⊥
not_reading e (FieldItems place width left) v partial h field dev = field place width left refl
not_reading e (DevItems place width left) v partial h field dev = dev place width left refl
not_reading e phase v partial h field dev = h

pub reads_defined : {A : Type 0} (e : Environment A) (phase : Phase) (v : Values A) (partial : List ℕ) → ReadsAt e phase v partial → None ≡ defined_at e v.local
    → ⊥
reads_defined {A} e (FieldItems place width left) v partial (p, known, rest, many) none = absurd (let other : None ≡ Some p = none ∙ known in cc)
reads_defined {A} e (DevItems place width left) v partial (p, known, rest, many) none = absurd (let other : None ≡ Some p = none ∙ known in cc)
reads_defined e phase v partial h none = h

-- the same definition
same_defined : {A : Type 0} (e : Environment A) (local : ℕ) (p q : Defined A) → defined_at e local ≡ Some q → Some p ≡ defined_at e local → q ≡ p
same_defined e local p q known found = let wrapped : Some q ≡ Some p = sym (found ∙ known) in cc

pub sound_of : {A : Type 0} {p : Defined A} {o : Option (Defined A)} → Some p ≡ o → IfSome o IsSound → IsSound p
sound_of {A} {p} {o} found h = subst (λ (x : Option (Defined A)). IfSome x IsSound) (sym found) h

module _ {A : Type 0} (e : Environment A) (phase : Phase) (v : Values A) (partial : List ℕ) (place width left : ℕ) (p : Defined A)
    (found : Some p ≡ defined_at e v.local) where
  pub fields_read : phase ≡ FieldItems place width left → ReadsAt e phase v partial
      → IsInField (length p.definition.fields) place width left partial × (length v.fields ≡ length p.definition.fields)
  fields_read is h =
      let (q, known, reading, many) = subst (λ k. ReadsAt e k v partial) is h in
      subst (λ (d : Defined A). IsInField (length d.definition.fields) place width left partial × (length v.fields ≡ length d.definition.fields))
      (same_defined e v.local p q known found) (reading, many)

  pub dev_read : phase ≡ DevItems place width left → IsSound p → ReadsAt e phase v partial
      → IsInField (length (dev_defs p.definition.dev)) place width left partial × (length v.dev ≡ length (dev_defs p.definition.dev))
  dev_read is sound h =
      let (q, known, reading, many) = subst (λ k. ReadsAt e k v partial) is h in
      let count : length (dev_layout q) ≡ length (dev_defs p.definition.dev) =
      ap (λ (d : Defined A). length (dev_layout d)) (same_defined e v.local p q known found) ∙ as_many_dev p sound in
      (subst (λ n. IsInField n place width left partial) count reading, many ∙ count)
