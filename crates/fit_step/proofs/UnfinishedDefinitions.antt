-- What there is of a definition message can go on just where it can be completed so that records fill the room.
use Rattle.fit_step.proofs.Common.{◌≡◌, ◌↔◌, IsTrue, ℕ, ◌+◌, ◌-◌, ◌*◌, ◌<◌, Bool, true, List, [], ◌∷◌, ◌++◌, length, refl, ap, ◌∙◌, subst, arith, lit<, Some}
use Rattle.fit_step.proofs.Common.{None, Option, flat_map, if◌then◌else◌, unwrap_or, option_map, both_ways, append-nil, Order, Little, Big, IsBytes}
use Rattle.fit_step.proofs.Common.{number_bytes, length-number_bytes, IsBytes-tail, DevDef, MessageDef, Record, Define, Data, Environment, dev_defs}
use Rattle.fit_step.proofs.Common.{is_definition, architecture, dev_field_bytes, definition_header, definition_bytes, record_bytes, body_length, Fits}
use Rattle.fit_step.proofs.Common.{CanComplete, fields_part, dev_fields_part, size_so_far, can_complete, can_complete_dev, can_complete_front, DefinitionPhase}
use Rattle.fit_step.proofs.Common.{Reserved, AtArchitecture, GlobalFirst, GlobalSecond, FieldCount, FieldNumber, FieldSize, FieldCode, DevCount, DevNumber}
use Rattle.fit_step.proofs.Common.{DevSize, DevIndex, fields_front, dev_front, definition_part, HasNone, AwaitsFields, AwaitsDev, IsDefinitionPart}
use Rattle.fit_step.proofs.Common.{entries_complete, has_dev, definition_goes_on, Continues, slice_index}
use Rattle.fit_record.proofs.DefinitionFronts.{front_can_complete}
use Rattle.fit_record.proofs.DefinitionParts.{fields_can_complete, dev_can_complete, dev_fields_can_complete}
use Rattle.fit_step.proofs.HeaderSteps.{message_first}
use Rattle.fit_step.proofs.DefinitionSteps.{is_a_definition}

-- ---- with the record header

module _ {A : Type 0} (e : Environment A) (header : ℕ) (part : List ℕ) (room : ℕ) where
  completed : CanComplete e header part room → Continues e (header ∷ part) room
  completed (d, rest, left, fits, first, others, are, fill, total) = record {
    whole = Define d;
    rest = rest;
    left = left;
    fits = fits;
    spelled = ap (λ h. h ∷ definition_bytes d) first ∙ ap (λ l. header ∷ l) others;
    are_bytes = are;
    filled = fill;
    total = total;
  }

  of_whole : is_definition header ≡ true → (r : Record A) (rest : List ℕ) (left : ℕ) → Fits e r → record_bytes e r ≡ (header ∷ part) ++ rest → IsBytes rest
      → Rattle.fit_record.specs.Files.CanFill (Rattle.fit_record.specs.Environment.learn e r) left → length rest + left ≡ room → CanComplete e header part room
  of_whole kind (Define d) rest left fits spelled are fill total =
      let first : definition_header d ≡ header = cc in
      let others : definition_bytes d ≡ part ++ rest = cc in
      (d, rest, left, fits, first, others, are, fill, total)
  of_whole kind (Data v) rest left fits spelled are fill total =
      absurd (both_ways (is_definition header) (message_first e v header (part ++ rest) fits spelled).bits.kind kind)

  continued : is_definition header ≡ true → Continues e (header ∷ part) room → CanComplete e header part room
  continued kind c = of_whole kind c.whole c.rest c.left c.fits c.spelled c.are_bytes c.filled c.total

  same_words : {c : Bool} → is_definition header ≡ true → IsTrue c ↔ CanComplete e header part room → IsTrue c ↔ Continues e (header ∷ part) room
  same_words kind law = (λ h. completed (law.0 h), λ h. law.1 (continued kind h))

-- ---- before the number of fields

header_of_dev : (local : ℕ) (dev : Option (List DevDef))
    → 0x40 + local + (if has_dev dev then 0x20 else 0) ≡ 0x40 + local + unwrap_or (option_map (λ _. 0x20) dev) 0
header_of_dev local None = refl
header_of_dev local (Some defs) = refl

architecture_low : (o : Order) → architecture o < 2
architecture_low Little = lit< tt
architecture_low Big = lit< tt

fronts : {A : Type 0} (e : Environment A) (d : MessageDef A) (part : List ℕ) (come room : ℕ) → length e.places ≡ 16 → d.local < 16 → length part ≡ come
    → come < 5 → slice_index part 1 < 2 → IsBytes part
    → IsTrue (can_complete_front (has_dev d.dev) come room) ↔ Continues e (definition_header d ∷ part) room
fronts {A} e d part come room sixteen low count few order are =
    let law = front_can_complete e d.local (has_dev d.dev) part room sixteen low (omega (arith, count, few)) order are in
    let here : IsTrue (can_complete_front (has_dev d.dev) come room) ↔ CanComplete e (definition_header d) part room =
    subst (λ h. IsTrue (can_complete_front (has_dev d.dev) come room) ↔ CanComplete {A = A} e h part room) (header_of_dev d.local d.dev)
    (subst (λ n. IsTrue (can_complete_front (has_dev d.dev) n room) ↔ CanComplete {A = A} e (0x40 + d.local + (if has_dev d.dev then 0x20 else 0)) part room)
    count law) in
    same_words e (definition_header d) part room (is_a_definition d low) here

-- ---- fields

fields_spelled : {A : Type 0} (d : MessageDef A) (count : ℕ) (entry : List ℕ) → definition_header d ∷ fields_part d count entry ≡ fields_front d count ++ entry
fields_spelled d count entry = refl

dev_spelled : {A : Type 0} (d : MessageDef A) (count : ℕ) (entry : List ℕ) → definition_header d ∷ dev_fields_part d count entry ≡ dev_front d count ++ entry
dev_spelled d count entry =
    ap (λ l. (l ++ (count ∷ flat_map dev_field_bytes (dev_defs d.dev))) ++ entry) (append-nil (fields_front d (length d.fields)))

-- the sum of the sizes that have come
no_size : {A : Type 0} (d : MessageDef A) → size_so_far d [] ≡ body_length d
no_size d = omega arith

pub among_fields : {A : Type 0} (e : Environment A) (d : MessageDef A) (dev : Option (List DevDef)) (left t size room : ℕ) (entry : List ℕ)
    → length e.places ≡ 16
    → AwaitsFields d left → d.dev ≡ dev → HasNone dev → length entry < 3 → length entry + t ≡ 3 * left → size_so_far d entry ≡ size
    → IsTrue (entries_complete e dev d.local t size room) ↔ Continues e (fields_front d (length d.fields + left) ++ entry) room
among_fields {A} e d None left t size room entry sixteen h is none short cut sum =
    let count : ℕ = length d.fields + left in
    let law = fields_can_complete e d count entry t room sixteen h.local h.global h.few (short, omega (arith, cut)) is in
    subst (λ bytes. IsTrue (can_complete e d.local t size room) ↔ Continues {A = A} e bytes room) (fields_spelled d count entry)
    (same_words e (definition_header d) (fields_part d count entry) room (is_a_definition d h.local)
    (subst (λ s. IsTrue (can_complete e d.local t s room) ↔ CanComplete {A = A} e (definition_header d) (fields_part d count entry) room) sum law))
among_fields {A} e d (Some defs) left t size room entry sixteen h is none short cut sum =
    let count : ℕ = length d.fields + left in
    let law = dev_can_complete e d count entry t room sixteen h.local h.global h.few (short, omega (arith, cut)) (is ∙ ap Some none) in
    subst (λ bytes. IsTrue (can_complete_dev e d.local t size room) ↔ Continues {A = A} e bytes room) (fields_spelled d count entry)
    (same_words e (definition_header d) (fields_part d count entry) room (is_a_definition d h.local)
    (subst (λ s. IsTrue (can_complete_dev e d.local t s room) ↔ CanComplete {A = A} e (definition_header d) (fields_part d count entry) room) sum law))

-- ---- developer fields

pub among_dev_fields : {A : Type 0} (e : Environment A) (d : MessageDef A) (left t size room : ℕ) (entry : List ℕ) → length e.places ≡ 16
    → AwaitsDev d left → length entry < 3 → length entry + t ≡ 3 * left → size_so_far d entry ≡ size
    → IsTrue (can_complete e d.local t size room) ↔ Continues e (dev_front d (length (dev_defs d.dev) + left) ++ entry) room
among_dev_fields {A} e d left t size room entry sixteen h short cut sum =
    let count : ℕ = length (dev_defs d.dev) + left in
    let known : length (dev_defs d.dev) ≡ length h.defs = ap (λ o. length (dev_defs o)) h.dev in
    let law = dev_fields_can_complete e d h.defs count entry t room sixteen h.local h.global h.fields (omega (arith, known, h.few)) h.dev
    (short, omega (arith, cut, known)) in
    subst (λ bytes. IsTrue (can_complete e d.local t size room) ↔ Continues {A = A} e bytes room) (dev_spelled d count entry)
    (same_words e (definition_header d) (dev_fields_part d count entry) room (is_a_definition d h.local)
    (subst (λ s. IsTrue (can_complete e d.local t s room) ↔ CanComplete {A = A} e (definition_header d) (dev_fields_part d count entry) room) sum law))

-- ---- all of it

pub definition_continues : {A : Type 0} (e : Environment A) (k : DefinitionPhase) (d : MessageDef A) (room : ℕ) → length e.places ≡ 16 → IsDefinitionPart k d
    → IsBytes (definition_part k d)
    → IsTrue (definition_goes_on e k d room) ↔ Continues e (definition_part k d) room
definition_continues e Reserved d room sixteen h are = fronts e d [] 0 room sixteen h.local refl (lit< tt) (lit< tt) (IsBytes-tail (definition_header d) [] are)
definition_continues e AtArchitecture d room sixteen h are =
    fronts e d (d.reserved ∷ []) 1 room sixteen h.local refl (lit< tt) (lit< tt) (IsBytes-tail (definition_header d) (d.reserved ∷ []) are)
definition_continues e GlobalFirst d room sixteen h are =
    fronts e d (d.reserved ∷ architecture d.order ∷ []) 2 room sixteen h.local refl (lit< tt) (architecture_low d.order)
    (IsBytes-tail (definition_header d) (d.reserved ∷ architecture d.order ∷ []) are)
definition_continues e (GlobalSecond first) d room sixteen h are =
    fronts e d (d.reserved ∷ architecture d.order ∷ first ∷ []) 3 room sixteen h.0.local refl (lit< tt) (architecture_low d.order)
    (IsBytes-tail (definition_header d) (d.reserved ∷ architecture d.order ∷ first ∷ []) are)
definition_continues e FieldCount d room sixteen h are =
    fronts e d (d.reserved ∷ architecture d.order ∷ number_bytes d.order 2 d.global) 4 room sixteen h.local
    (omega (arith, length-number_bytes d.order 2 d.global)) (lit< tt) (architecture_low d.order)
    (IsBytes-tail (definition_header d) (d.reserved ∷ architecture d.order ∷ number_bytes d.order 2 d.global) are)
definition_continues {A} e (FieldNumber left) d room sixteen h are =
    subst (λ bytes. IsTrue (entries_complete e d.dev d.local (3 + 3 * (left - 1)) (body_length d) room) ↔ Continues {A = A} e bytes room)
    (append-nil (fields_front d (length d.fields + left)))
    (among_fields e d d.dev left (3 + 3 * (left - 1)) (body_length d) room [] sixteen h refl h.dev (lit< tt) (omega (arith, h.some)) (no_size d))
definition_continues e (FieldSize left number) d room sixteen h are =
    among_fields e d d.dev left (2 + 3 * (left - 1)) (body_length d) room (number ∷ []) sixteen h refl h.dev (lit< tt) (omega (arith, h.some)) (no_size d)
definition_continues e (FieldCode left number size) d room sixteen h are =
    among_fields e d d.dev left (1 + 3 * (left - 1)) (body_length d + size) room (number ∷ size ∷ []) sixteen h refl h.dev (lit< tt) (omega (arith, h.some))
    refl
definition_continues {A} e DevCount d room sixteen h are =
    let w = h.0 in
    let count : ℕ = length d.fields in
    let law = dev_can_complete e d count [] 0 room sixteen w.local w.global w.fields (lit< tt, omega arith) h.1 in
    subst (λ bytes. IsTrue (can_complete_dev e d.local 0 (body_length d) room) ↔ Continues {A = A} e bytes room)
    (fields_spelled d count [] ∙ append-nil (fields_front d count))
    (same_words e (definition_header d) (fields_part d count []) room (is_a_definition d w.local)
    (subst (λ s. IsTrue (can_complete_dev e d.local 0 s room) ↔ CanComplete {A = A} e (definition_header d) (fields_part d count []) room) (no_size d) law))
definition_continues {A} e (DevNumber left) d room sixteen h are =
    subst (λ bytes. IsTrue (can_complete e d.local (3 + 3 * (left - 1)) (body_length d) room) ↔ Continues {A = A} e bytes room)
    (append-nil (dev_front d (length (dev_defs d.dev) + left)))
    (among_dev_fields e d left (3 + 3 * (left - 1)) (body_length d) room [] sixteen h.0 (lit< tt) (omega (arith, h.1)) (no_size d))
definition_continues e (DevSize left number) d room sixteen h are =
    among_dev_fields e d left (2 + 3 * (left - 1)) (body_length d) room (number ∷ []) sixteen h.0 (lit< tt) (omega (arith, h.1)) (no_size d)
definition_continues e (DevIndex left number size) d room sixteen h are =
    among_dev_fields e d left (1 + 3 * (left - 1)) (body_length d + size) room (number ∷ size ∷ []) sixteen h.0 (lit< tt) (omega (arith, h.1)) refl
