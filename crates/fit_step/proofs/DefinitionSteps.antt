-- The bytes of a definition message after its record header.
use Rattle.fit_step.proofs.Common.{◌≡◌, inl, inr, ℕ, suc, ◌+◌, ◌-◌, ◌*◌, ◌^◌, ◌<◌, true, false, List, [], ◌∷◌, ◌++◌, length, refl, sym, ap, ◌∙◌, arith}
use Rattle.fit_step.proofs.Common.{append_assoc, length-append, Some, None, Ok, Err, Option, flat_map, option_map, unwrap_or, nat_lt, cases_Bool, cases_eq}
use Rattle.fit_step.proofs.Common.{cases_lt, both_ways, cond_both, eq-eqb, ne_eqb, eqb-true, eqb-false, lt-ltb, le-ltb, append-nil, flat_map_more, Order}
use Rattle.fit_step.proofs.Common.{Little, Big, number_of, number_bytes, front_back, length-number_bytes, IsBytes-none, IsBytes-cons, number_bytes-number}
use Rattle.fit_step.proofs.Common.{number-below, Reason, record_reason, NoFit, Overrun, Architecture, FieldDef, DevDef, MessageDef, Define, Data}
use Rattle.fit_step.proofs.Common.{DefinitionPhase, Reserved, AtArchitecture, GlobalFirst, GlobalSecond, FieldCount, FieldNumber, FieldSize, FieldCode}
use Rattle.fit_step.proofs.Common.{DevCount, DevNumber, DevSize, DevIndex, Environment, dev_defs, is_definition, architecture, field_bytes, dev_field_bytes}
use Rattle.fit_step.proofs.Common.{dev_part, definition_header, definition_bytes, DefinitionFits, Tests, Step, defining, step, definition_move, next_field}
use Rattle.fit_step.proofs.Common.{next_dev, after_fields, dev_count_byte, in_definition, definition_front, fields_front, dev_front, definition_part, HasNone}
use Rattle.fit_step.proofs.Common.{IsNew, AwaitsFields, AwaitsDev, IsDefinitionPart, IsShut, same_fields, ◌≤◌, ◌==◌, dev_length, length-fields}
use Rattle.fit_step.proofs.Common.{length-dev_fields}
use Rattle.fit_step.proofs.Lengths.{length-fields_front}
use Rattle.fit_record.proofs.RecordLengths.{length-dev_part}
use Rattle.fit_step.proofs.HeaderBits.{definition_bits, is_some_dev}
use Rattle.fit_step.proofs.HeaderSteps.{message_first}
use Rattle.fit_step.proofs.DefinitionReasons.{at_count, at_size, at_dev_count, at_dev_size, count_at, count_before, count_in_dev}
use Rattle.fit_step.proofs.Outcomes.{Moves, Outcome}

pub is_a_definition : {A : Type 0} (d : MessageDef A) → d.local < 16 → is_definition (definition_header d) ≡ true
is_a_definition d l = (definition_bits (definition_header d) d.local d.dev refl l).kind

-- ---- what follows the entries

fields_end : {A : Type 0} (e : Environment A) (room : ℕ) (d : MessageDef A) (dev : Option (List DevDef)) (bytes : List ℕ) → d.dev ≡ dev → HasNone dev
    → d.local < 16 → d.global < 2 ^ 16 → length d.fields < 256 → fields_front d (length d.fields) ≡ bytes → Moves e room bytes (Ok (after_fields room d dev))
fields_end e room d None bytes is none l g f s =
    inr (record {
      whole = Define d;
      fits = record { local = l; global = g; fields = f; dev_fields = rw is (omega arith) };
      spelled = ap (λ z. fields_front d (length d.fields) ++ dev_part z) is ∙ append-nil (fields_front d (length d.fields)) ∙ s;
      is = refl;
    })
fields_end e room d (Some defs) bytes is none l g f s =
    inl (record {
      next = in_definition DevCount d;
      stands = (record { local = l; global = g; fields = f; defs = []; dev = is ∙ ap Some none; few = omega arith }, is ∙ ap Some none);
      begun = tt;
      spelled = s;
      is = refl;
    })

fields_go : {A : Type 0} (e : Environment A) (room left : ℕ) (d : MessageDef A) (bytes : List ℕ) → HasNone d.dev
    → d.local < 16 → d.global < 2 ^ 16 → length d.fields + left < 256 → fields_front d (length d.fields + left) ≡ bytes
    → Moves e room bytes (Ok (next_field left room d))
fields_go e room left d bytes none l g f s =
    cond_both (left == 0) _ _ (λ n. Moves e room bytes (Ok n))
    (λ h.
    let all : left ≡ 0 = eqb-true left 0 h in
    let count : length d.fields ≡ length d.fields + left = omega arith in
    fields_end e room d d.dev bytes refl none l g (omega arith) (ap (fields_front d) count ∙ s))
    (λ h.
    let some : left ≡ 0 → ⊥ = eqb-false left 0 h in
    inl (record {
      next = in_definition (FieldNumber left) d;
      stands = record { local = l; global = g; some = omega arith; few = f; dev = none };
      begun = tt;
      spelled = s;
      is = refl;
    }))

dev_go : {A : Type 0} (e : Environment A) (room left : ℕ) (d : MessageDef A) (bytes : List ℕ) → AwaitsDev d left
    → dev_front d (length (dev_defs d.dev) + left) ≡ bytes → Moves e room bytes (Ok (next_dev left room d))
dev_go e room left d bytes w s =
    let same : dev_defs d.dev ≡ w.defs = ap dev_defs w.dev in
    cond_both (left == 0) _ _ (λ n. Moves e room bytes (Ok n))
    (λ h.
    let all : left ≡ 0 = eqb-true left 0 h in
    let few = w.few in
    let count : length w.defs ≡ length (dev_defs d.dev) + left = omega (arith, ap length same) in
    let part : dev_part d.dev ≡ (length (dev_defs d.dev) + left) ∷ flat_map dev_field_bytes (dev_defs d.dev) =
    ap dev_part w.dev ∙ ap (λ n. n ∷ flat_map dev_field_bytes w.defs) count ∙ ap (λ z. (length (dev_defs d.dev) + left) ∷ flat_map dev_field_bytes z) (sym same)
    in
    inr (record {
      whole = Define d;
      fits = record { local = w.local; global = w.global; fields = w.fields; dev_fields = rw same (omega arith) };
      spelled = ap (λ z. fields_front d (length d.fields) ++ z) part ∙ s;
      is = refl;
    }))
    (λ h.
    let some : left ≡ 0 → ⊥ = eqb-false left 0 h in
    inl (record {
      next = in_definition (DevNumber left) d;
      stands = (w, omega arith);
      begun = tt;
      spelled = s;
      is = refl;
    }))

-- ---- where it is refused

architecture_at : (o : Order) (b : ℕ) → architecture o ≡ b → (b ≡ 0 → ⊥) → (b ≡ 1 → ⊥) → ⊥
architecture_at Little b h z o = z (sym h)
architecture_at Big b h z o = o (sym h)

architecture_shut : {A : Type 0} (e : Environment A) (room b : ℕ) (d : MessageDef A) → d.local < 16 → (b ≡ 0 → ⊥) → (b ≡ 1 → ⊥)
    → IsShut e room (definition_part AtArchitecture d) b Architecture
architecture_shut e room b d l zero_ one (Define c) rest f s =
    let arch : architecture c.order ≡ b = cc in
    architecture_at c.order b arch zero_ one
architecture_shut e room b d l zero_ one (Data v) rest f s =
    absurd (both_ways (is_definition (definition_header d)) (message_first e v (definition_header d) (d.reserved ∷ b ∷ rest) f s).bits.kind
    (is_a_definition d l))

-- after the global number two definitions with the same front go on in the same way
same_front : {A : Type 0} (c d : MessageDef A) (more : List ℕ) → DefinitionFits c → d.local < 16
    → definition_header c ∷ definition_bytes c ≡ definition_front d ++ more
    → (is_some_dev c.dev ≡ is_some_dev d.dev) × ((length c.fields ∷ flat_map field_bytes c.fields) ++ dev_part c.dev ≡ more)
same_front c d more f l s =
    let header : definition_header c ≡ definition_header d = cc in
    let tail : (number_bytes c.order 2 c.global ++ (length c.fields ∷ flat_map field_bytes c.fields)) ++ dev_part c.dev
    ≡ number_bytes d.order 2 d.global ++ more = cc in
    let rest = front_back (number_bytes c.order 2 c.global) (number_bytes d.order 2 d.global)
    ((length c.fields ∷ flat_map field_bytes c.fields) ++ dev_part c.dev) more
    (length-number_bytes c.order 2 c.global ∙ sym (length-number_bytes d.order 2 d.global))
    (sym (append_assoc (number_bytes c.order 2 c.global) (length c.fields ∷ flat_map field_bytes c.fields) (dev_part c.dev)) ∙ tail) in
    let one = definition_bits (definition_header d) c.local c.dev (sym header) f.local in
    let other = definition_bits (definition_header d) d.local d.dev refl l in
    (sym one.with_dev ∙ other.with_dev, rest.1)

counted : (a b : Option (List DevDef)) → is_some_dev a ≡ is_some_dev b → dev_count_byte b ≤ dev_length a
counted None (Some _) h = absurd cc
counted (Some _) None h = omega arith
counted a b h = omega arith

field_count_shut : {A : Type 0} (e : Environment A) (room b : ℕ) (d : MessageDef A) → d.local < 16 → room < 1 + 3 * b + dev_count_byte d.dev
    → IsShut e room (definition_front d) b Overrun
field_count_shut e room b d l less (Define c) rest f s =
    let k = same_front c d (b ∷ rest) f l s in
    let tail = k.1 in
    let count : length c.fields ≡ b = cc in
    let after : flat_map field_bytes c.fields ++ dev_part c.dev ≡ rest = cc in
    omega (
      arith,
      less,
      count,
      ap length (sym after),
      length-append (flat_map field_bytes c.fields) (dev_part c.dev),
      length-fields c.fields,
      length-dev_part c.dev,
      counted c.dev d.dev k.0,
    )
field_count_shut e room b d l less (Data v) rest f s =
    absurd (both_ways (is_definition (definition_header d)) (message_first e v (definition_header d) _ f s).bits.kind (is_a_definition d l))

dev_part_first : (dev : Option (List DevDef)) (b : ℕ) (rest : List ℕ) → dev_part dev ≡ b ∷ rest → length rest ≡ 3 * b
dev_part_first None b rest h = absurd cc
dev_part_first (Some defs) b rest h =
    let count : length defs ≡ b = cc in
    let after : flat_map dev_field_bytes defs ≡ rest = cc in
    ap length (sym after) ∙ length-dev_fields defs ∙ ap (λ n. 3 * n) count

dev_count_shut : {A : Type 0} (e : Environment A) (room b : ℕ) (d : MessageDef A) → d.local < 16 → room < 1 + 3 * b
    → IsShut e room (fields_front d (length d.fields)) b Overrun
dev_count_shut e room b d l less (Define c) rest f s =
    let whole : definition_header c ∷ definition_bytes c ≡ definition_front d ++ ((length d.fields ∷ flat_map field_bytes d.fields) ++ b ∷ rest) =
    s ∙ append_assoc (definition_front d) (length d.fields ∷ flat_map field_bytes d.fields) (b ∷ rest) in
    let k = same_front c d _ f l whole in
    let tail = k.1 in
    let count : length c.fields ≡ length d.fields = cc in
    let after : flat_map field_bytes c.fields ++ dev_part c.dev ≡ flat_map field_bytes d.fields ++ b ∷ rest = cc in
    let same = same_fields c.fields d.fields (dev_part c.dev) (b ∷ rest) count after in
    omega (arith, less, dev_part_first c.dev b rest same.1)
dev_count_shut e room b d l less (Data v) rest f s =
    absurd (both_ways (is_definition (definition_header d)) (message_first e v (definition_header d) _ f s).bits.kind (is_a_definition d l))

-- ---- each place

regroup_entry : (f y : List ℕ) (n p q b : ℕ) → f ++ (n ∷ (y ++ p ∷ q ∷ b ∷ [])) ≡ ((f ++ n ∷ y) ++ p ∷ q ∷ []) ++ b ∷ []
regroup_entry f y n p q b = simp append_assoc

module _ {A : Type 0} (e : Environment A) (tests : Tests A) (room : ℕ) (d : MessageDef A) (b : ℕ) where
  abbrev At : DefinitionPhase → Type 0
  At k = Outcome e room (definition_part k d) b (definition_move tests k room d b)

  goes_to : {bytes : List ℕ} {made : Step A} (k : DefinitionPhase) (c : MessageDef A) → IsDefinitionPart k c → definition_part k c ≡ bytes ++ b ∷ []
      → made ≡ Ok (defining k (room - 1) c, None) → Outcome e room bytes b made
  goes_to k c h s is = inl (inl (record { next = in_definition k c; stands = h; begun = tt; spelled = s; is = is }))

  stops_at : {bytes : List ℕ} {made : Step A} (reason : Reason) → made ≡ Err reason → record_reason e bytes room b ≡ Some reason
      → IsShut e room bytes b reason → Outcome e room bytes b made
  stops_at reason is because shut = inr (record { reason = reason; is = is; because = because; shut = shut })

  -- ---- up to the fields

  architecture_outcome : IsNew d → At AtArchitecture
  unfolding definition_move
  architecture_outcome h =
      elim (cases_eq b 0) [
        | inl is ↦
            let zero_ : (b == 0) ≡ true = eq-eqb b 0 is in
            goes_to GlobalFirst (record d { order = Little }) (record { local = h.local; global = h.global; fields = h.fields; dev = h.dev })
            (ap (λ n. definition_header d ∷ d.reserved ∷ n ∷ []) (sym is)) (rw zero_ refl)
        | inr some ↦
            let not_zero : (b == 0) ≡ false = ne_eqb b 0 some in
            elim (cases_eq b 1) [
              | inl is ↦
                  let one : (b == 1) ≡ true = eq-eqb b 1 is in
                  goes_to GlobalFirst (record d { order = Big }) (record { local = h.local; global = h.global; fields = h.fields; dev = h.dev })
                  (ap (λ n. definition_header d ∷ d.reserved ∷ n ∷ []) (sym is)) (rw (not_zero, one) refl)
              | inr other ↦
                  let not_one : (b == 1) ≡ false = ne_eqb b 1 other in
                  stops_at Architecture (rw (not_zero, not_one) refl) (rw (is_a_definition d h.local) refl)
                  (architecture_shut e room b d h.local some other)
            ]
      ]

  field_count_outcome : IsNew d → b < 256 → At FieldCount
  unfolding definition_move
  field_count_outcome h low =
      let least : ℕ = 1 + 3 * b + dev_count_byte d.dev in
      elim (cases_lt room least) [
        | inr fits ↦
            let short : nat_lt room least ≡ false = le-ltb room least fits in
            let count : length d.fields + b ≡ b = omega (arith, ap length h.fields) in
            rw short (inl (fields_go e (room - 1) b d _ h.dev h.local h.global (omega (arith, count))
            (ap (λ z. definition_front d ++ (length d.fields + b) ∷ flat_map field_bytes z) h.fields ∙ ap (λ n. definition_front d ++ n ∷ []) count)))
        | inl less ↦
            let long : nat_lt room least ≡ true = lt-ltb room least less in
            stops_at Overrun (rw long refl)
            (rw (is_a_definition d h.local) (at_count (definition_header d) room b (d.reserved ∷ architecture d.order ∷ number_bytes d.order 2 d.global)
            (ap (λ n. suc (suc n)) (length-number_bytes d.order 2 d.global))))
            (field_count_shut e room b d h.local less)
      ]

  -- ---- fields

  field_size_outcome : (left number : ℕ) → AwaitsFields d left → At (FieldSize left number)
  unfolding definition_move
  field_size_outcome left number h =
      let n : ℕ = length d.fields + left in
      elim (cases_Bool (tests.field_size d (left - 1) (room - 1) b)) [
        | inl fills ↦ goes_to (FieldCode left number b) d h (sym (append_assoc (fields_front d n) (number ∷ []) (b ∷ []))) (rw fills refl)
        | inr no_fit ↦
            let place : length (definition_part (FieldSize left number) d) ≡ 7 + 3 * length d.fields =
            omega (arith, length-append (fields_front d n) (number ∷ []), length-fields_front d n) in
            let some = h.some in
            stops_at NoFit (rw no_fit refl)
            (rw (is_a_definition d h.local) (at_size (definition_header d) room b n (length d.fields)
            (d.reserved ∷ architecture d.order ∷ ((number_bytes d.order 2 d.global ++ n ∷ flat_map field_bytes d.fields) ++ number ∷ []))
            (count_at d.order d.global d.reserved (architecture d.order) n (flat_map field_bytes d.fields) (number ∷ [])) (omega (arith, place)) (omega arith)))
            tt
      ]

  field_code_on : (left number size : ℕ) → AwaitsFields d left
      → Moves e (room - 1) (definition_part (FieldCode left number size) d ++ b ∷ []) (definition_move tests (FieldCode left number size) room d b)
  unfolding definition_move
  field_code_on left number size h =
      let f : FieldDef = record { number = number; size = size; code = b } in
      let c : MessageDef A = record d { fields = d.fields ++ f ∷ [] } in
      let some = h.some in
      let few = h.few in
      let longer : length (d.fields ++ f ∷ []) ≡ length d.fields + 1 = length-append d.fields (f ∷ []) in
      let count : length c.fields + (left - 1) ≡ length d.fields + left = omega (arith, longer) in
      fields_go e (room - 1) (left - 1) c _ h.dev h.local h.global (omega (arith, longer))
      ((λ i. definition_front d ++ count i ∷ sym (flat_map_more field_bytes [] d.fields f) i)
      ∙ regroup_entry (definition_front d) (flat_map field_bytes d.fields) (length d.fields + left) number size b)

  -- ---- developer fields

  dev_count_outcome : AwaitsDev d 0 → d.dev ≡ Some [] → b < 256 → At DevCount
  unfolding definition_move
  dev_count_outcome h none low =
      let because = at_dev_count (definition_header d) room b (length d.fields)
      (d.reserved ∷ architecture d.order ∷ (number_bytes d.order 2 d.global ++ length d.fields ∷ flat_map field_bytes d.fields))
      (count_before d.order d.global d.reserved (architecture d.order) (length d.fields) (flat_map field_bytes d.fields))
      (omega (arith, length-fields_front d (length d.fields))) in
      elim (cases_lt room (1 + 3 * b)) [
        | inl less ↦
            let long : nat_lt room (1 + 3 * b) ≡ true = lt-ltb room (1 + 3 * b) less in
            stops_at Overrun (rw long refl) (rw (is_a_definition d h.local) (because ∙ rw long refl)) (dev_count_shut e room b d h.local less)
        | inr fits ↦
            let short : nat_lt room (1 + 3 * b) ≡ false = le-ltb room (1 + 3 * b) fits in
            elim (cases_Bool (tests.dev_count d (room - 1) b)) [
              | inl fills ↦
                  let same : dev_defs d.dev ≡ [] = ap dev_defs none in
                  let count : length (dev_defs d.dev) + b ≡ b = omega (arith, ap length same) in
                  rw (short, fills) (inl (dev_go e (room - 1) b d _
                  (record { local = h.local; global = h.global; fields = h.fields; defs = []; dev = none; few = omega arith })
                  (ap (λ z. fields_front d (length d.fields) ++ (length (dev_defs d.dev) + b) ∷ flat_map dev_field_bytes z) same
                  ∙ ap (λ n. fields_front d (length d.fields) ++ n ∷ []) count)))
              | inr no_fit ↦ stops_at NoFit (rw (short, no_fit) refl) (rw (is_a_definition d h.local) (because ∙ rw short refl)) tt
            ]
      ]

  dev_size_outcome : (left number : ℕ) → AwaitsDev d left → 0 < left → At (DevSize left number)
  unfolding definition_move
  dev_size_outcome left number h some =
      let n : ℕ = length d.fields in
      let m : ℕ = length (dev_defs d.dev) + left in
      elim (cases_Bool (tests.dev_size d (left - 1) (room - 1) b)) [
        | inl fills ↦ goes_to (DevIndex left number b) d (h, some) (sym (append_assoc (dev_front d m) (number ∷ []) (b ∷ []))) (rw fills refl)
        | inr no_fit ↦
            let entries : List ℕ = m ∷ flat_map dev_field_bytes (dev_defs d.dev) in
            let place : length (definition_part (DevSize left number) d) ≡ 8 + 3 * n + 3 * length (dev_defs d.dev) =
            omega (
              arith,
              length-append (dev_front d m) (number ∷ []),
              length-append (fields_front d n) entries,
              length-fields_front d n,
              length-dev_fields (dev_defs d.dev),
            ) in
            stops_at NoFit (rw no_fit refl)
            (rw (is_a_definition d h.local) (at_dev_size (definition_header d) room b n (length (dev_defs d.dev))
            (d.reserved ∷ architecture d.order ∷ (((number_bytes d.order 2 d.global ++ n ∷ flat_map field_bytes d.fields) ++ entries) ++ number ∷ []))
            (count_in_dev d.order d.global d.reserved (architecture d.order) n (flat_map field_bytes d.fields) entries (number ∷ [])) (omega (arith, place))))
            tt
      ]

  dev_index_on : (left number size : ℕ) → AwaitsDev d left → 0 < left
      → Moves e (room - 1) (definition_part (DevIndex left number size) d ++ b ∷ []) (definition_move tests (DevIndex left number size) room d b)
  unfolding definition_move
  dev_index_on left number size h some =
      let f : DevDef = record { number = number; size = size; index = b } in
      let old : List DevDef = dev_defs d.dev in
      let c : MessageDef A = record d { dev = Some (old ++ f ∷ []) } in
      let few = h.few in
      let same : length old ≡ length h.defs = ap (λ o. length (dev_defs o)) h.dev in
      let longer : length (old ++ f ∷ []) ≡ length old + 1 = length-append old (f ∷ []) in
      let count : length (old ++ f ∷ []) + (left - 1) ≡ length old + left = omega (arith, longer) in
      let header : definition_header c ≡ definition_header d =
      ap (λ (o : Option (List DevDef)). 0x40 + d.local + unwrap_or (option_map (λ _. 0x20) o) 0) (sym h.dev) in
      dev_go e (room - 1) (left - 1) c _
      (record { local = h.local; global = h.global; fields = h.fields; defs = old ++ f ∷ []; dev = refl; few = omega (arith, longer, same) })
      ((λ i. ((header i ∷ d.reserved ∷ architecture d.order ∷ number_bytes d.order 2 d.global) ++ length d.fields ∷ flat_map field_bytes d.fields)
      ++ count i ∷ sym (flat_map_more dev_field_bytes [] old f) i)
      ∙ regroup_entry (fields_front d (length d.fields)) (flat_map dev_field_bytes old) (length old + left) number size b)

  -- ---- all of them

  definition_at : (k : DefinitionPhase) → IsDefinitionPart k d → b < 256 → At k
  unfolding definition_move architecture_outcome field_count_outcome field_size_outcome field_code_on dev_count_outcome dev_size_outcome dev_index_on
  definition_at Reserved h low =
      goes_to AtArchitecture (record d { reserved = b }) (record { local = h.local; global = h.global; fields = h.fields; dev = h.dev }) refl refl
  definition_at AtArchitecture h low = architecture_outcome h
  definition_at GlobalFirst h low = goes_to (GlobalSecond b) d (h, low) refl refl
  definition_at (GlobalSecond first) h low =
      let bytes = IsBytes-cons first (b ∷ []) h.1 (IsBytes-cons b [] low IsBytes-none) in
      goes_to FieldCount (record d { global = number_of d.order (first ∷ b ∷ []) })
      (record { local = h.0.local; global = number-below d.order (first ∷ b ∷ []) bytes; fields = h.0.fields; dev = h.0.dev })
      (ap (λ z. definition_header d ∷ d.reserved ∷ architecture d.order ∷ z) (number_bytes-number d.order (first ∷ b ∷ []) bytes)) refl
  definition_at FieldCount h low = field_count_outcome h low
  definition_at (FieldNumber left) h low = goes_to (FieldSize left b) d h refl refl
  definition_at (FieldSize left number) h low = field_size_outcome left number h
  definition_at (FieldCode left number size) h low = inl (field_code_on left number size h)
  definition_at DevCount h low = dev_count_outcome h.0 h.1 low
  definition_at (DevNumber left) h low = goes_to (DevSize left b) d h refl refl
  definition_at (DevSize left number) h low = dev_size_outcome left number h.0 h.1
  definition_at (DevIndex left number size) h low = inl (dev_index_on left number size h.0 h.1)

pub definition_outcome : {A : Type 0} (e : Environment A) (tests : Tests A) (room : ℕ) (k : DefinitionPhase) (d : MessageDef A) (b : ℕ) → IsDefinitionPart k d
    → b < 256 → Outcome e room (definition_part k d) b (step e tests (defining k room d) b)
unfolding step
definition_outcome e tests room k d b h low = definition_at e tests room d b k h low
