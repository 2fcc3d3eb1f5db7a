-- A data message without fields and developer fields describes nothing, and is whole with its record header.
use Rattle.fit_step.proofs.Common.{◌≡◌, inr, ℕ, suc, ◌+◌, ◌-◌, Bool, false, List, [], ◌∷◌, refl, sym, ap, ◌∙◌, subst, Some, None, Ok, Err, Option, IsSomeAnd}
use Rattle.fit_step.proofs.Common.{nat_lt, cond_both, MessageDef, Defined, Record, Data, Values, Environment, defined_at, only_byte, description}
use Rattle.fit_step.proofs.Common.{DescribesNothing, is_definition, has_reserved_bit, local_type, layout, dev_layout, message_size, HasNoFields}
use Rattle.fit_step.proofs.Common.{HeadsEmptyMessage, RecordHeader, Position, Stop, Refused, NoMemory, Tests, State, Step, NextState, begin_dev, begin_fields}
use Rattle.fit_step.proofs.Common.{new_message, message_move, header_move, step, step_at, Steps, TakesNone, WantsNone, RecordByte, ◌==◌}

undescribed : {A : Type 0} (d : MessageDef A) (v : Values A) → d.fields ≡ [] → description d v ≡ None
undescribed d v none =
    let first : only_byte d.fields v.fields 0 ≡ None = ap (λ l. only_byte l v.fields 0) none in
    cond_both (d.global == 206) _ _ (λ o. o ≡ None) (λ _. rw first refl) (λ _. refl)

-- ---- what a record header makes whole

pub dev_whole : {A : Type 0} (room : ℕ) (v : Values A) (place : ℕ) (fields : List (ℕ × ℕ)) (t : State A) (r : Record A)
    → begin_dev room v place fields ≡ (t, Some r) → Data v ≡ r
dev_whole room v place [] t r = λ is. let both : Some (Data v) ≡ Some r = ap (λ n. n.1) is in cc
dev_whole {A} room v place (f ∷ fields) t r =
    cond_both (f.1 == 0) _ _ (λ (n : NextState A). n ≡ (t, Some r) → Data v ≡ r) (λ _ is. dev_whole room v (suc place) fields t r is)
    (λ _ is. absurd (let none : None ≡ Some r = ap (λ n. n.1) is in cc))

pub fields_whole : {A : Type 0} (room : ℕ) (v : Values A) (place : ℕ) (fields dev : List (ℕ × ℕ)) (t : State A) (r : Record A)
    → begin_fields room v place fields dev ≡ (t, Some r) → Data v ≡ r
fields_whole room v place [] dev t r = dev_whole room v 0 dev t r
fields_whole {A} room v place (f ∷ fields) dev t r =
    cond_both (f.1 == 0) _ _ (λ (n : NextState A). n ≡ (t, Some r) → Data v ≡ r) (λ _ is. fields_whole room v (suc place) fields dev t r is)
    (λ _ is. absurd (let none : None ≡ Some r = ap (λ n. n.1) is in cc))

module _ {A : Type 0} (e : Environment A) (tests : Tests A) (room b : ℕ) (t : State A) (r : Record A) where
  message_described : (p : Defined A) → defined_at e (local_type b) ≡ Some p → HasNoFields p.definition → message_move tests room b (Some p) ≡ Ok (t, Some r)
      → DescribesNothing e r
  unfolding message_move
  message_described p known none =
      let v : Values A = new_message b (layout p) (dev_layout p) in
      cond_both (nat_lt room (1 + message_size p)) _ _ (λ (n : Step A). n ≡ Ok (t, Some r) → DescribesNothing e r) (λ _ is. absurd cc)
      (λ _. cond_both (tests.message (room - (1 + message_size p))) _ _ (λ (n : Step A). n ≡ Ok (t, Some r) → DescribesNothing e r)
      (λ _ is.
      let whole : begin_fields (room - 1) v 0 (layout p) (dev_layout p) ≡ (t, Some r) = cc is in
      subst (DescribesNothing e) (fields_whole (room - 1) v 0 (layout p) (dev_layout p) t r whole) (rw known (undescribed p.definition v none.0)))
      (λ _ is. absurd cc))

  place_described : (o : Option (Defined A)) → defined_at e (local_type b) ≡ o → IsSomeAnd o (λ p. HasNoFields p.definition)
      → message_move tests room b o ≡ Ok (t, Some r) → DescribesNothing e r
  place_described None known none is = absurd none
  place_described (Some p) known none is = message_described p known none is

  header_described : HeadsEmptyMessage e b → header_move e tests room b ≡ Ok (t, Some r) → DescribesNothing e r
  unfolding header_move
  header_described heads =
      cond_both (has_reserved_bit b) _ _ (λ (n : Step A). n ≡ Ok (t, Some r) → DescribesNothing e r) (λ _ is. absurd cc)
      (λ _. cond_both (is_definition b) _ _ (λ (n : Step A). n ≡ Ok (t, Some r) → DescribesNothing e r)
      (λ yes is. absurd (let no : is_definition b ≡ false = heads.0 in cc))
      (λ _ is. place_described (defined_at e (local_type b)) refl heads.1 is))

pub describes_nothing : {A : Type 0} (e : Environment A) (tests : Tests A) (s t : State A) (b : ℕ) (r : Record A) → s.phase ≡ RecordHeader
    → HeadsEmptyMessage e b → step e tests s b ≡ Ok (t, Some r) → DescribesNothing e r
unfolding step
describes_nothing e tests s t b r at heads made = header_described e tests s.room b t r heads (subst (λ k. step_at e tests k s b ≡ Ok (t, Some r)) at made)

-- ---- a byte that isn't taken

pub record_stopped : {A : Type 0} (e : Environment A) (s t : State A) (b : ℕ) (after : Option (Record A)) (stop : Stop) (made : Step A) → t ≡ s
    → Steps after (Err stop) made
    → (TakesNone e s.phase s.partial b → WantsNone {X = Position × Bool} (Err stop)) → RecordByte e e t b (Err stop) made
record_stopped e s t b after (Refused reason) made same steps free = (refl, steps)
record_stopped e s t b after NoMemory made same steps free = (
  refl,
  steps,
  λ at heads.
      let here : s.phase ≡ RecordHeader = sym (ap (λ (u : State _). u.phase) same) ∙ at in
      free (subst (λ k. TakesNone e k s.partial b) (sym here) (inr heads)),
)
