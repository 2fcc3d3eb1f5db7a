-- A record header.
use Rattle.fit_step.proofs.Common.{◌≡◌, inl, inr, ℕ, ◌+◌, ◌-◌, ◌<◌, Bool, true, false, cond, List, [], ◌∷◌, length, refl, sym, ap, ◌∙◌, arith, Some, None}
use Rattle.fit_step.proofs.Common.{Option, nat_lt, cases_Bool, both_ways, ltb-true, NoFit, ReservedBit, UndefinedLocal, Overrun, MessageDef, Values}
use Rattle.fit_step.proofs.Common.{Defined, Define, Data, Reserved, Environment, defined_at, is_definition, has_developer_fields, has_reserved_bit, local_type}
use Rattle.fit_step.proofs.Common.{definition_header, definition_bytes, DefinitionFits, order_at, layout, least_definition}
use Rattle.fit_step.proofs.Common.{message_size, Tests, step, header_move, message_move, start, new_definition, new_message, in_definition, IsShut, ◌≤◌}
use Rattle.fit_step.proofs.Common.{dev_length, length-data, Ok, Err, option_map, nat_le, ◌&&◌, option_map_or, cond-true, cond-false, lt-ltb, le-ltb, le-leb}
use Rattle.fit_step.proofs.Common.{dev_layout, can_fill, can_carry, Phase, message_begun, entered, Step, begin_fields, tests_of}
use Rattle.fit_record.proofs.RecordLengths.{length-definition}
use Rattle.fit_step.proofs.HeaderBits.{definition_spelled, data_spelled, DefinitionBits, definition_bits, is_some_dev}
use Rattle.fit_step.proofs.MessageSteps.{fields_begin}
pub use Rattle.fit_record.proofs.DataHeaders.{Messages, message_first}
use Rattle.fit_step.proofs.Outcomes.{Outcome}

-- ---- what a record says of its first byte

-- a definition begins with this byte
pub record Definitions {A : Type 0} (b : ℕ) (rest : List ℕ) (d : MessageDef A) : Type 0 where
  pub bits : DefinitionBits b d.local (is_some_dev d.dev)
  pub header : definition_header d ≡ b
  pub tail : definition_bytes d ≡ rest

pub definition_first : {A : Type 0} (d : MessageDef A) (b : ℕ) (rest : List ℕ) → DefinitionFits d → definition_header d ∷ definition_bytes d ≡ b ∷ rest
    → Definitions b rest d
definition_first d b rest h e =
    let first : definition_header d ≡ b = cc in
    let others : definition_bytes d ≡ rest = cc in
    record { bits = definition_bits b d.local d.dev (sym first) h.local; header = first; tail = others }

-- ---- where it is refused

reserved_shut : {A : Type 0} (e : Environment A) (room b : ℕ) → has_reserved_bit b ≡ true → IsShut e room [] b ReservedBit
reserved_shut e room b h (Define d) rest f s = both_ways (has_reserved_bit b) (definition_first d b rest f s).bits.clean h
reserved_shut e room b h (Data v) rest f s = both_ways (has_reserved_bit b) (message_first e v b rest f s).bits.clean h

undefined_shut : {A : Type 0} (e : Environment A) (room b : ℕ) → is_definition b ≡ false → defined_at e (local_type b) ≡ None
    → IsShut e room [] b UndefinedLocal
undefined_shut e room b h n (Define d) rest f s = both_ways (is_definition b) h (definition_first d b rest f s).bits.kind
undefined_shut e room b h n (Data v) rest f s =
    let m = message_first e v b rest f s in
    let none : defined_at e v.local ≡ None = ap (defined_at e) (sym m.bits.type) ∙ n in
    cc (none, m.known)

least_length : (dev : Bool) (b : ℕ) → has_developer_fields b ≡ dev → least_definition b ≡ cond dev 7 6
least_length dev b h = ap (λ c. cond c 7 6) h

dev_takes : (dev : Option (List Rattle.fit_record.specs.declared.definition.DevDef.DevDef)) → cond (is_some_dev dev) 7 6 ≤ 6 + dev_length dev
dev_takes None = omega arith
dev_takes (Some fs) = omega arith

long_definition_shut : {A : Type 0} (e : Environment A) (room b : ℕ) → is_definition b ≡ true → room < least_definition b → IsShut e room [] b Overrun
long_definition_shut e room b h less (Define d) rest f s =
    let m = definition_first d b rest f s in
    let least : least_definition b ≡ cond (is_some_dev d.dev) 7 6 = least_length (is_some_dev d.dev) b m.bits.with_dev in
    omega (arith, less, least, ap length m.tail, length-definition d, dev_takes d.dev)
long_definition_shut e room b h less (Data v) rest f s = absurd (both_ways (is_definition b) (message_first e v b rest f s).bits.kind h)

long_message_shut : {A : Type 0} (e : Environment A) (room b : ℕ) (p : Defined A) → is_definition b ≡ false → defined_at e (local_type b) ≡ Some p
    → room < 1 + message_size p → IsShut e room [] b Overrun
long_message_shut e room b p h known less (Define d) rest f s = absurd (both_ways (is_definition b) h (definition_first d b rest f s).bits.kind)
long_message_shut e room b p h known less (Data v) rest f s =
    let m = message_first e v b rest f s in
    let same_place : Some p ≡ Some m.place = sym known ∙ ap (defined_at e) m.bits.type ∙ m.known in
    let same : p ≡ m.place = cc in
    let all : length rest ≡ message_size p = ap length (sym m.tail) ∙ length-data (order_at e v.local) v m.place m.fits ∙ ap message_size (sym same) in
    omega (arith, less, all)

-- ---- what it makes

message_header : {A : Type 0} (e : Environment A) (tests : Tests A) (room b : ℕ) (o : Option (Defined A)) → defined_at e (local_type b) ≡ o
    → b < 256 → has_reserved_bit b ≡ false → is_definition b ≡ false → Outcome e room [] b (message_move tests room b o)
unfolding message_move
message_header e tests room b None known low clean data_ =
    inr (record { reason = UndefinedLocal; is = refl; because = rw (clean, data_, known) refl; shut = undefined_shut e room b data_ known })
message_header {A} e tests room b (Some p) known low clean data_ =
    elim (cases_Bool (nat_lt room (1 + message_size p))) [
      | inl long ↦ inr (record {
        reason = Overrun;
        is = rw long refl;
        because = rw (clean, data_, known, long) refl;
        shut = long_message_shut e room b p data_ known (ltb-true room (1 + message_size p) long);
      })
      | inr short ↦ elim (cases_Bool (tests.message (room - (1 + message_size p)))) [
        | inl fills ↦
            let spelled = data_spelled b low clean data_ in
            rw (short, fills) (inl (fields_begin e (room - 1) (local_type b) (new_message {A = A} b [] []).offset p known spelled.0 (layout p) [] 0 [] (b ∷ [])
            refl refl tt (ap (λ h. h ∷ []) spelled.1)))
        | inr no_fit ↦ inr (record {
          reason = NoFit;
          is = rw (short, no_fit) refl;
          because = rw (clean, data_, known, short) refl;
          shut = tt;
        })
      ]
    ]

pub header_outcome : {A : Type 0} (e : Environment A) (tests : Tests A) (room b : ℕ) → b < 256 → Outcome e room [] b (step e tests (start room) b)
unfolding step header_move
header_outcome {A} e tests room b low =
    elim (cases_Bool (has_reserved_bit b)) [
      | inl reserved ↦ inr (record { reason = ReservedBit; is = rw reserved refl; because = rw reserved refl; shut = reserved_shut e room b reserved })
      | inr clean ↦ elim (cases_Bool (is_definition b)) [
        | inr data_ ↦ rw (clean, data_) (message_header e tests room b (defined_at e (local_type b)) refl low clean data_)
        | inl def ↦ elim (cases_Bool (nat_lt room (least_definition b))) [
          | inl long ↦ inr (record {
            reason = Overrun;
            is = rw (clean, def, long) refl;
            because = rw (clean, def, long) refl;
            shut = long_definition_shut e room b def (ltb-true room (least_definition b) long);
          })
          | inr short ↦
              let spelled = definition_spelled b low clean def in
              rw (clean, def, short) (inl (inl (record {
                next = in_definition Reserved (new_definition b);
                stands = record { local = spelled.0; global = omega arith; fields = refl; dev = none (has_developer_fields b) };
                begun = tt;
                spelled = ap (λ h. h ∷ []) spelled.1;
                is = refl;
              })))
        ]
      ]
    ]
  where
    none : (c : Bool) → Rattle.fit_step.specs.Parts.HasNone (Rattle.fit_step.specs.Machine.new_dev c)
    none true = refl
    none false = tt

-- ---- by the length of the message and the test of what is left after it

-- what a data message of this definition begins
abbrev pub begun_message : {A : Type 0} → ℕ → ℕ → Defined A → Step A
begun_message room b p = Ok (begin_fields (room - 1) (new_message b (layout p) (dev_layout p)) 0 (layout p) (dev_layout p))

pub undefined : {A : Type 0} (e : Environment A) (room b : ℕ) (o : Option (Defined A)) → None ≡ option_map message_size o
    → message_move (tests_of e) room b o ≡ Err UndefinedLocal
unfolding message_move
undefined e room b None h = refl
undefined e room b (Some p) h = absurd cc

pub overrun : {A : Type 0} (e : Environment A) (room b n : ℕ) (o : Option (Defined A)) → Some n ≡ option_map message_size o → room < 1 + n
    → message_move (tests_of e) room b o ≡ Err Overrun
unfolding message_move
overrun e room b n None h less = absurd cc
overrun e room b n (Some p) h less =
    let size : n ≡ message_size p = cc in
    cond-true (nat_lt room (1 + message_size p)) _ _ (lt-ltb room (1 + message_size p) (omega (arith, size, less)))

pub carry_test : {A : Type 0} (e : Environment A) (local : ℕ) (p : Defined A) (room left : ℕ) → defined_at e local ≡ Some p → room ≡ message_size p + left
    → can_carry e local room ≡ can_fill e left
carry_test e local p room left known is =
    let enough : nat_le (message_size p) room ≡ true = le-leb (message_size p) room (omega arith) in
    let rest : room - message_size p ≡ left = omega arith in
    ap (λ o. option_map_or (λ q. nat_le (message_size q) room && can_fill e (room - message_size q)) o false) known
    ∙ (λ i. enough i && can_fill e (rest i))

pub no_fit : {A : Type 0} (e : Environment A) (room b n local : ℕ) (o : Option (Defined A)) → defined_at e local ≡ o → Some n ≡ option_map message_size o
    → 1 + n ≤ room
    → false ≡ can_carry e local (room - 1) → message_move (tests_of e) room b o ≡ Err NoFit
unfolding message_move
no_fit e room b n local None known h within test = absurd cc
no_fit e room b n local (Some p) known h within test =
    let size : n ≡ message_size p = cc in
    let long : 1 + message_size p ≤ room = omega (arith, size, within) in
    let tested = carry_test e local p (room - 1) (room - (1 + message_size p)) known (omega (arith, long)) in
    cond-false (nat_lt room (1 + message_size p)) _ _ (le-ltb room (1 + message_size p) long)
    ∙ cond-false (can_fill e (room - (1 + message_size p))) _ _ (sym tested ∙ sym test)

pub message_goes : {A : Type 0} (e : Environment A) (room b n local : ℕ) (p : Defined A) → defined_at e local ≡ Some p
    → Some n ≡ option_map message_size (defined_at e local) → 1 + n ≤ room
    → true ≡ can_carry e local (room - 1) → message_move (tests_of e) room b (Some p) ≡ begun_message room b p
unfolding message_move
message_goes e room b n local p known h within test =
    let wrapped : Some n ≡ Some (message_size p) = h ∙ ap (option_map message_size) known in
    let size : n ≡ message_size p = cc in
    let long : 1 + message_size p ≤ room = omega (arith, size, within) in
    let tested = carry_test e local p (room - 1) (room - (1 + message_size p)) known (omega (arith, long)) in
    cond-false (nat_lt room (1 + message_size p)) _ _ (le-ltb room (1 + message_size p) long)
    ∙ cond-true (can_fill e (room - (1 + message_size p))) _ _ (sym tested ∙ sym test)

-- ---- at the local message type that was read

module _ {A : Type 0} (e : Environment A) (room b local : ℕ) (same : local ≡ local_type b) where
  from_local : (made : Step A) → message_move (tests_of e) room b (defined_at e local) ≡ made
      → message_move (tests_of e) room b (defined_at e (local_type b)) ≡ made
  from_local made h = ap (λ l. message_move (tests_of e) room b (defined_at e l)) (sym same) ∙ h

  pub undefined_at : None ≡ defined_at e local → message_move (tests_of e) room b (defined_at e (local_type b)) ≡ Err UndefinedLocal
  undefined_at h = from_local (Err UndefinedLocal) (undefined e room b (defined_at e local) (ap (option_map message_size) h))

  pub overrun_at : (n : ℕ) → Some n ≡ option_map message_size (defined_at e local) → room < 1 + n
      → message_move (tests_of e) room b (defined_at e (local_type b)) ≡ Err Overrun
  overrun_at n h less = from_local (Err Overrun) (overrun e room b n (defined_at e local) h less)

  pub no_fit_at : (n : ℕ) → Some n ≡ option_map message_size (defined_at e local) → 1 + n ≤ room → false ≡ can_carry e local (room - 1)
      → message_move (tests_of e) room b (defined_at e (local_type b)) ≡ Err NoFit
  no_fit_at n h within test = from_local (Err NoFit) (no_fit e room b n local (defined_at e local) refl h within test)

  pub goes_at : (n : ℕ) (p : Defined A) → Some p ≡ defined_at e local → Some n ≡ option_map message_size (defined_at e local) → 1 + n ≤ room
      → true ≡ can_carry e local (room - 1)
      → message_move (tests_of e) room b (defined_at e (local_type b)) ≡ begun_message room b p
  goes_at n p known h within test =
      from_local (begun_message room b p) (ap (message_move (tests_of e) room b) (sym known) ∙ message_goes e room b n local p (sym known) h within test)

-- what is begun is whole, or the message in progress
pub begun_entered : {A : Type 0} (whole : Bool) (phase : Phase) (room : ℕ) (v : Values A) → message_begun whole phase room v ≡ entered whole phase room (Data v)
begun_entered true phase room v = refl
begun_entered false phase room v = refl
