-- The room inside a record: each byte takes one of it, and what the record still takes is there.
use Rattle.fit_step.proofs.Common.{◌≡◌, ℕ, zero, suc, ◌+◌, ◌-◌, ◌*◌, ◌<◌, Bool, true, false, List, [], ◌∷◌, ◌++◌, length, refl, sym, ap, subst, arith, Some}
use Rattle.fit_step.proofs.Common.{None, Ok, Err, Option, nat_lt, option_map, unwrap_or, cond_both, eqb-true, eqb-false, ltb-false, sum_by-cons, DevDef}
use Rattle.fit_step.proofs.Common.{MessageDef, Values, Defined, DefinitionPhase, AtArchitecture, FieldCount, FieldSize, FieldCode, DevCount, DevSize, DevIndex}
use Rattle.fit_step.proofs.Common.{Reserved, Environment, defined_at, is_definition, has_developer_fields, has_reserved_bit, local_type, layout, dev_layout}
use Rattle.fit_step.proofs.Common.{message_size, sizes, least_definition, Tests, Step, step, least_rest, begin_dev, begin_fields, layout_at, dev_layout_at}
use Rattle.fit_step.proofs.Common.{fields_rest, dev_rest, field_move, dev_move, definition_move, next_field, next_dev, after_fields, dev_count_byte}
use Rattle.fit_step.proofs.Common.{new_message, new_dev, header_move, message_move, RecordPart, nothing, in_definition, in_fields, in_dev_fields}
use Rattle.fit_step.proofs.Common.{IsDefinitionPart, IsPart, state_of, HasBegun, ◌≤◌, with_number, order_at, learn, can_fill, goes_on, next_with_bytes, drop}
use Rattle.fit_step.proofs.Common.{◌==◌}
use Rattle.fit_record.proofs.CarriedMessages.{same_filling}
use Rattle.fit_step.proofs.HeaderSteps.{begun_message}
use Rattle.fit_step.proofs.Lengths.{message_sizes}
use Rattle.fit_step.proofs.TwoLists.{dev_found, field_found, dev_begun, field_begun}

-- what a step leaves of a room
abbrev pub KeepsRoom : {A : Type 0} → Environment A → ℕ → Step A → Type 0
KeepsRoom e room (Ok (t, None)) = (t.room + 1 ≡ room) × (least_rest e t ≤ t.room)
KeepsRoom e room (Ok (t, Some r)) = 0 < room
KeepsRoom e room (Err reason) = Unit {0}

-- what is after the first of the fields from a place on
pub beyond : {X : Type 0} (place : ℕ) (all rest : List X) (f : X) → drop place all ≡ f ∷ rest → drop (suc place) all ≡ rest
beyond zero [] rest f h = absurd cc
beyond zero (x ∷ all) rest f h = cc
beyond (suc place) [] rest f h = absurd cc
beyond (suc place) (x ∷ all) rest f h = beyond place all rest f h

-- ---- data messages

-- where the search for the next field that has bytes ends, that many bytes of the fields are to come
abbrev Leaves : List (ℕ × ℕ) → ℕ → Option (ℕ × ℕ × ℕ) → Type 0
Leaves all total None = total ≡ 0
Leaves all total (Some (place, width, left)) = left + sizes (drop (suc place) all) ≡ total

rest_found : (place : ℕ) (all rest : List (ℕ × ℕ)) → drop place all ≡ rest → Leaves all (sizes rest) (next_with_bytes place rest)
rest_found place all [] at = omega arith
rest_found place all (f ∷ rest) at =
    let sum : sizes (f ∷ rest) ≡ f.1 + sizes rest = sum_by-cons (λ (f : ℕ × ℕ). f.1) f rest in
    let next : drop (suc place) all ≡ rest = beyond place all rest f at in
    let others : sizes (drop (suc place) all) ≡ sizes rest = ap sizes next in
    cond_both (f.1 == 0) _ _ (λ n. Leaves all (sizes (f ∷ rest)) n)
    (λ z.
    let same : sizes rest ≡ sizes (f ∷ rest) = omega (arith, sum, eqb-true f.1 0 z) in
    subst (λ n. Leaves all n (next_with_bytes (suc place) rest)) same (rest_found (suc place) all rest next))
    (λ z. omega (arith, sum, others))

-- in a data message this room is left, and that many bytes of the message are to come
abbrev pub Begun : {A : Type 0} → Environment A → ℕ → ℕ → Step A → Type 0
Begun e room total (Ok (t, None)) = (t.room ≡ room) × (least_rest e t ≡ total) × (goes_on e t ≡ can_fill e (room - total))
Begun e room total (Ok (t, Some r)) = (t.room ≡ room) × (total ≡ 0) × (can_fill (learn e r) room ≡ can_fill e room)
Begun e room total (Err reason) = ⊥

module _ {A : Type 0} (e : Environment A) where
  dev_begin : (room : ℕ) (v : Values A) (place : ℕ) (rest : List (ℕ × ℕ)) → drop place (dev_layout_at e v.local) ≡ rest
      → Begun e room (sizes rest) (Ok (begin_dev room v place rest))
  dev_begin room v place rest at =
      subst (λ n. Begun e room (sizes rest) (Ok n)) (sym (dev_found room v place rest))
      (go (next_with_bytes place rest) (rest_found place (dev_layout_at e v.local) rest at))
    where
      go : (n : Option (ℕ × ℕ × ℕ)) → Leaves (dev_layout_at e v.local) (sizes rest) n → Begun e room (sizes rest) (Ok (dev_begun room v n))
      go None none = (refl, none, same_filling e v room)
      go (Some (k, width, left)) h = (refl, h, ap (λ n. can_fill e (room - n)) h)

  fields_begin : (room : ℕ) (v : Values A) (place : ℕ) (rest : List (ℕ × ℕ)) → drop place (layout_at e v.local) ≡ rest
      → Begun e room (sizes rest + sizes (dev_layout_at e v.local)) (Ok (begin_fields room v place rest (dev_layout_at e v.local)))
  fields_begin room v place rest at =
      subst (λ n. Begun e room (sizes rest + sizes dev) (Ok n)) (sym (field_found room v place rest dev))
      (go (next_with_bytes place rest) (rest_found place (layout_at e v.local) rest at))
    where
      dev : List (ℕ × ℕ)
      dev = dev_layout_at e v.local

      go : (n : Option (ℕ × ℕ × ℕ)) → Leaves (layout_at e v.local) (sizes rest) n → Begun e room (sizes rest + sizes dev) (Ok (field_begun room v dev n))
      go None none =
          let same : sizes dev ≡ sizes rest + sizes dev = omega (arith, none) in
          subst (λ n. Begun e room n (Ok (begin_dev room v 0 dev))) same (dev_begin room v 0 dev refl)
      go (Some (k, width, left)) h =
          let same : left + fields_rest e k v.local ≡ sizes rest + sizes dev = omega (arith, h) in
          (refl, same, ap (λ n. can_fill e (room - n)) same)

  -- one byte of a field
  pub field_byte : (place width left room : ℕ) (v : Values A) (partial : List ℕ) (b : ℕ) → 0 < left
      → Begun e (room - 1) (left + fields_rest e place v.local - 1) (field_move e place width left room v partial b)
  unfolding field_move
  field_byte place width left room v partial b some =
      let rest : ℕ = fields_rest e place v.local in
      let w : Values A = record v { fields = with_number (order_at e v.local) width place v.fields (partial ++ b ∷ []) } in
      cond_both (left == 1) _ _ (λ n. Begun e (room - 1) (left + rest - 1) n)
      (λ z.
      let same : rest ≡ left + rest - 1 = omega (arith, eqb-true left 1 z) in
      subst (λ n. Begun e (room - 1) n (Ok (begin_fields (room - 1) w (suc place) (drop (suc place) (layout_at e v.local)) (dev_layout_at e v.local)))) same
      (fields_begin (room - 1) w (suc place) (drop (suc place) (layout_at e v.local)) refl))
      (λ z. let same : left - 1 + rest ≡ left + rest - 1 = omega arith in (refl, same, ap (λ n. can_fill e (room - 1 - n)) same))

  pub dev_byte : (place width left room : ℕ) (v : Values A) (partial : List ℕ) (b : ℕ) → 0 < left
      → Begun e (room - 1) (left + dev_rest e place v.local - 1) (dev_move e place width left room v partial b)
  unfolding dev_move
  dev_byte place width left room v partial b some =
      let rest : ℕ = dev_rest e place v.local in
      let w : Values A = record v { dev = with_number (order_at e v.local) width place v.dev (partial ++ b ∷ []) } in
      cond_both (left == 1) _ _ (λ n. Begun e (room - 1) (left + rest - 1) n)
      (λ z.
      let same : rest ≡ left + rest - 1 = omega (arith, eqb-true left 1 z) in
      subst (λ n. Begun e (room - 1) n (Ok (begin_dev (room - 1) w (suc place) (drop (suc place) (dev_layout_at e v.local))))) same
      (dev_begin (room - 1) w (suc place) (drop (suc place) (dev_layout_at e v.local)) refl))
      (λ z. let same : left - 1 + rest ≡ left + rest - 1 = omega arith in (refl, same, ap (λ n. can_fill e (room - 1 - n)) same))

  -- a record header
  pub message_begins : (room b : ℕ) (p : Defined A) → defined_at e (local_type b) ≡ Some p
      → Begun e (room - 1) (message_size p) (begun_message room b p)
  message_begins room b p known =
      let v : Values A = new_message b (layout p) (dev_layout p) in
      let fields : layout_at e (local_type b) ≡ layout p = ap (λ q. unwrap_or (option_map layout q) []) known in
      let dev : dev_layout_at e (local_type b) ≡ dev_layout p = ap (λ q. unwrap_or (option_map dev_layout q) []) known in
      subst (λ n. Begun e (room - 1) n (begun_message room b p)) (sym (message_sizes p))
      (subst (λ d. Begun e (room - 1) (sizes (layout p) + sizes d) (Ok (begin_fields (room - 1) v 0 (layout p) d))) dev
      (fields_begin (room - 1) v 0 (layout p) fields))

  begun_keeps : (room left total : ℕ) (made : Step A) → Begun e left total made → left + 1 ≡ room → total ≤ left → KeepsRoom e room made
  begun_keeps room left total (Ok (t, None)) h one less = (omega (arith, h.0, one), omega (arith, h.0, h.1, less))
  begun_keeps room left total (Ok (t, Some r)) h one less = omega arith
  begun_keeps room left total (Err reason) h one less = absurd h

-- ---- definitions

after_keeps : {A : Type 0} (e : Environment A) (room left : ℕ) (d : MessageDef A) (dev : Option (List DevDef)) → left + 1 ≡ room → dev_count_byte dev ≤ left
    → KeepsRoom e room (Ok (after_fields left d dev))
after_keeps e room left d None h less = omega arith
after_keeps e room left d (Some defs) h less = (h, less)

next_keeps : {A : Type 0} (e : Environment A) (room left n : ℕ) (d : MessageDef A) → left + 1 ≡ room → 3 * n + dev_count_byte d.dev ≤ left
    → KeepsRoom e room (Ok (next_field n left d))
next_keeps e room left n d h less =
    cond_both (n == 0) _ _ (λ m. KeepsRoom e room (Ok m))
    (λ z. after_keeps e room left d d.dev h (omega arith))
    (λ z. let some : n ≡ 0 → ⊥ = eqb-false n 0 z in (h, omega arith))

next_dev_keeps : {A : Type 0} (e : Environment A) (room left n : ℕ) (d : MessageDef A) → left + 1 ≡ room → 3 * n ≤ left
    → KeepsRoom e room (Ok (next_dev n left d))
next_dev_keeps e room left n d h less =
    cond_both (n == 0) _ _ (λ m. KeepsRoom e room (Ok m))
    (λ z. omega arith)
    (λ z. let some : n ≡ 0 → ⊥ = eqb-false n 0 z in (h, omega arith))

definition_keeps : {A : Type 0} (e : Environment A) (tests : Tests A) (k : DefinitionPhase) (room : ℕ) (d : MessageDef A) (b : ℕ) → IsDefinitionPart k d
    → Rattle.fit_step.specs.Machine.definition_rest k d ≤ room → KeepsRoom e room (definition_move tests k room d b)
unfolding definition_move
definition_keeps e tests AtArchitecture room d b h less =
    cond_both (b == 0) _ _ (λ n. KeepsRoom e room n) (λ z. (omega arith, omega arith))
    (λ z. cond_both (b == 1) _ _ (λ n. KeepsRoom e room n) (λ y. (omega arith, omega arith)) (λ y. tt))
definition_keeps e tests FieldCount room d b h less =
    cond_both (nat_lt room (1 + 3 * b + dev_count_byte d.dev)) _ _ (λ n. KeepsRoom e room n) (λ z. tt)
    (λ z. let within = ltb-false room (1 + 3 * b + dev_count_byte d.dev) z in next_keeps e room (room - 1) b d (omega arith) (omega arith))
definition_keeps e tests (FieldSize left number) room d b h less =
    cond_both (tests.field_size d (left - 1) (room - 1) b) _ _ (λ n. KeepsRoom e room n) (λ z. (omega arith, omega arith)) (λ z. tt)
definition_keeps e tests (FieldCode left number size) room d b h less =
    next_keeps e room (room - 1) (left - 1) _ (omega arith) (omega arith)
definition_keeps e tests DevCount room d b h less =
    cond_both (nat_lt room (1 + 3 * b)) _ _ (λ n. KeepsRoom e room n) (λ z. tt)
    (λ z. cond_both (tests.dev_count d (room - 1) b) _ _ (λ n. KeepsRoom e room n)
    (λ y. let within = ltb-false room (1 + 3 * b) z in next_dev_keeps e room (room - 1) b d (omega arith) (omega arith))
    (λ y. tt))
definition_keeps e tests (DevSize left number) room d b h less =
    cond_both (tests.dev_size d (left - 1) (room - 1) b) _ _ (λ n. KeepsRoom e room n) (λ z. (omega arith, omega arith)) (λ z. tt)
definition_keeps e tests (DevIndex left number size) room d b h less =
    next_dev_keeps e room (room - 1) (left - 1) _ (omega arith) (omega arith)
definition_keeps e tests k room d b h less = (omega arith, omega arith)

-- ---- record headers

message_keeps : {A : Type 0} (e : Environment A) (tests : Tests A) (room b : ℕ) (o : Option (Defined A)) → defined_at e (local_type b) ≡ o
    → KeepsRoom e room (message_move tests room b o)
unfolding message_move
message_keeps e tests room b None known = tt
message_keeps e tests room b (Some p) known =
    cond_both (nat_lt room (1 + message_size p)) _ _ (λ n. KeepsRoom e room n) (λ z. tt)
    (λ z. cond_both (tests.message (room - (1 + message_size p))) _ _ (λ n. KeepsRoom e room n)
    (λ y.
    let within = ltb-false room (1 + message_size p) z in
    begun_keeps e room (room - 1) (message_size p) (begun_message room b p) (message_begins e room b p known) (omega (arith, within)) (omega (arith, within)))
    (λ y. tt))

counts_one : (c : Bool) → 5 + dev_count_byte (new_dev c) + 1 ≡ Rattle.std.proofs.Common.cond c 7 6
counts_one true = refl
counts_one false = refl

header_keeps : {A : Type 0} (e : Environment A) (tests : Tests A) (room b : ℕ) → KeepsRoom e room (header_move e tests room b)
unfolding header_move
header_keeps {A} e tests room b =
    cond_both (has_reserved_bit b) _ _ (λ n. KeepsRoom e room n) (λ z. tt)
    (λ z. cond_both (is_definition b) _ _ (λ n. KeepsRoom e room n)
    (λ y. cond_both (nat_lt room (least_definition b)) _ _ (λ n. KeepsRoom e room n) (λ x. tt)
    (λ x. let within = ltb-false room (least_definition b) x in let least = counts_one (has_developer_fields b) in
    (omega (arith, within, least), omega (arith, within, least))))
    (λ y. message_keeps e tests room b (defined_at e (local_type b)) refl))

pub keeps : {A : Type 0} (e : Environment A) (tests : Tests A) (room : ℕ) (f : RecordPart A) (b : ℕ) → IsPart e f → least_rest e (state_of room f) ≤ room
    → KeepsRoom e room (step e tests (state_of room f) b)
unfolding step
keeps e tests room nothing b h less = header_keeps e tests room b
keeps e tests room (in_definition k d) b h less = definition_keeps e tests k room d b h less
keeps e tests room (in_fields local offset t dev) b (p, known, header, s, same) less =
    let some = s.some in
    begun_keeps e room (room - 1) _ _ (field_byte e (length t.done) _ t.left room _ t.partial b some) (omega (arith, some, less)) (omega (arith, some, less))
keeps e tests room (in_dev_fields local offset items t) b (p, known, header, shapes, s) less =
    let some = s.some in
    begun_keeps e room (room - 1) _ _ (dev_byte e (length t.done) _ t.left room _ t.partial b some) (omega (arith, some, less)) (omega (arith, some, less))

-- ---- the least rest

-- a record in progress takes one byte more at least
pub takes_more : {A : Type 0} (e : Environment A) (room : ℕ) (f : RecordPart A) → IsPart e f → HasBegun f → 0 < least_rest e (state_of room f)
takes_more e room nothing is begun = absurd begun
takes_more e room (in_definition Reserved d) is begun = omega arith
takes_more e room (in_definition k d) is begun = omega arith
takes_more e room (in_fields local offset t dev) is begun = let some = is.3.some in omega (arith, some)
takes_more e room (in_dev_fields local offset items t) is begun = let some = is.4.some in omega (arith, some)

-- the room doesn't count
pub rest_same : {A : Type 0} (e : Environment A) (room left : ℕ) (f : RecordPart A) → least_rest e (state_of room f) ≡ least_rest e (state_of left f)
rest_same e room left nothing = refl
rest_same e room left f = refl
