-- A byte that isn't refused leaves a room that can still be filled.
use Rattle.fit_step.proofs.Common.{◌≡◌, inl, inr, ◌⊎◌, ℕ, zero, suc, ◌+◌, ◌-◌, ◌*◌, ◌<◌, Bool, true, false, cond, List, [], ◌∷◌, ◌++◌, length, refl, sym, ap}
use Rattle.fit_step.proofs.Common.{◌∙◌, subst, arith, Some, None, Ok, Err, Option, ◌&&◌, ◌||◌, nat_lt, nat_le, cond_both, eqb-true, eqb-false, ltb-false}
use Rattle.fit_step.proofs.Common.{leb-true, le-leb, lt-leb, or_left, or_right, or_cases, and_parts, and_from, cases_lt, sum_by-append, sum_by-cons, DevDef}
use Rattle.fit_step.proofs.Common.{FieldDef, MessageDef, Defined, Define, Environment, defined_at, dev_defs, learn, is_definition, has_developer_fields}
use Rattle.fit_step.proofs.Common.{has_reserved_bit, local_type, message_size, body_length, can_fill, can_fill_with, can_fill_from, others_have, finishes}
use Rattle.fit_step.proofs.Common.{can_complete, can_complete_dev, can_fill_is, length-set, DefinitionPhase, Reserved, AtArchitecture, GlobalFirst}
use Rattle.fit_step.proofs.Common.{GlobalSecond, FieldCount, FieldNumber, FieldSize, FieldCode, DevCount, DevNumber, DevSize, DevIndex, least_definition, Step}
use Rattle.fit_step.proofs.Common.{start, step, least_rest, fields_rest, dev_rest, definition_move, definition_rest, next_field, next_dev, after_fields}
use Rattle.fit_step.proofs.Common.{dev_count_byte, new_dev, header_move, message_move, RecordPart, nothing, in_definition, in_fields, in_dev_fields}
use Rattle.fit_step.proofs.Common.{IsDefinitionPart, IsNew, HasNone, IsPart, state_of, entries_complete, tests_of, has_dev, definition_goes_on, goes_on, ◌≤◌}
use Rattle.fit_step.proofs.Common.{◌==◌, sum_by}
use Rattle.fit_record.proofs.DefinitionInPlace.{can_fill_after}
use Rattle.fit_record.proofs.RoomSums.{fills_by_ones}
use Rattle.fit_step.proofs.HeaderSteps.{begun_message}
use Rattle.fit_step.proofs.Rest.{Begun, field_byte, dev_byte, message_begins}

-- what a step leaves can go on, and after a whole record the room can be filled
abbrev pub GoesOn : {A : Type 0} → Environment A → Step A → Type 0
GoesOn e (Ok (t, None)) = goes_on e t ≡ true
GoesOn e (Ok (t, Some r)) = can_fill (learn e r) t.room ≡ true
GoesOn e (Err reason) = Unit {0}

-- ---- data messages

begun_on : {A : Type 0} (e : Environment A) (room total : ℕ) (made : Step A) → Begun e room total made → can_fill e (room - total) ≡ true → GoesOn e made
begun_on e room total (Ok (t, None)) h fill = h.2 ∙ fill
begun_on e room total (Ok (t, Some r)) h fill =
    let same : room ≡ room - total = omega (arith, h.1) in ap (can_fill (learn e r)) h.0 ∙ h.2 ∙ ap (can_fill e) same ∙ fill
begun_on e room total (Err reason) h fill = absurd h

-- a byte of the room is a byte less to come
one_less : {A : Type 0} (e : Environment A) (room total : ℕ) → 0 < total → can_fill e (room - total) ≡ true → can_fill e (room - 1 - (total - 1)) ≡ true
one_less e room total some on = let same : room - 1 - (total - 1) ≡ room - total = omega arith in ap (can_fill e) same ∙ on

-- ---- entries of a definition message

module _ {A : Type 0} (e : Environment A) (local : ℕ) where
  -- without fields
  fills_empty : (size room : ℕ) → size ≡ 0 → can_fill_with e local size room ≡ true
  fills_empty size room none =
      fills_by_ones (λ n. others_have e local n || (1 + size == n)) (or_right (others_have e local 1) _ (ap (λ n. 1 + n == 1) none)) room

  -- with a size that is still to come, where none has come
  fills_open : (size room : ℕ) → size ≡ 0 → can_fill_from e local size room ≡ true
  fills_open size zero none = or_right (nat_le (1 + size) zero) _ refl
  fills_open size (suc room) none = or_left (nat_le (1 + size) (suc room)) _ (le-leb (1 + size) (suc room) (omega arith))

  finishes_open : (t size left : ℕ) → 2 ≤ t → can_fill_from e local size left ≡ true → finishes e local t size left ≡ true
  finishes_open t size left more h = ap (λ c. cond c (can_fill_from e local size left) (can_fill_with e local size left)) (le-leb 2 t more) ∙ h

  finishes_with : (t size left : ℕ) → t < 2 → can_fill_with e local size left ≡ true → finishes e local t size left ≡ true
  finishes_with t size left few h = ap (λ c. cond c (can_fill_from e local size left) (can_fill_with e local size left)) (lt-leb 2 t few) ∙ h

  with_of : (t size left : ℕ) → t < 2 → finishes e local t size left ≡ true → can_fill_with e local size left ≡ true
  with_of t size left few h = sym (ap (λ c. cond c (can_fill_from e local size left) (can_fill_with e local size left)) (lt-leb 2 t few)) ∙ h

  -- one byte of entries less: a size is to come in both or in none
  sooner : (t size left : ℕ) → (t ≡ 1 → ⊥) → finishes e local (suc t) size left ≡ true → finishes e local t size left ≡ true
  sooner t size left apart h = ap (λ c. cond c (can_fill_from e local size left) (can_fill_with e local size left)) (sym (same (cases_lt t 2))) ∙ h
    where
      same : (t < 2) ⊎ (2 ≤ t) → nat_le 2 (suc t) ≡ nat_le 2 t
      same (inl few) = let none : t ≡ 0 = omega (arith, few, apart) in ap (λ n. nat_le 2 (suc n)) none ∙ sym (ap (nat_le 2) none)
      same (inr more) = le-leb 2 (suc t) (omega arith) ∙ sym (le-leb 2 t more)

  less_to_come : (t size room : ℕ) → (t ≡ 1 → ⊥) → can_complete e local (suc t) size room ≡ true → can_complete e local t size (room - 1) ≡ true
  less_to_come t size room apart h =
      let parts = and_parts (nat_le (suc t) room) (finishes e local (suc t) size (room - suc t)) h in
      let enough : suc t ≤ room = leb-true (suc t) room parts.0 in
      let same : room - suc t ≡ room - 1 - t = omega arith in
      and_from (nat_le t (room - 1)) (finishes e local t size (room - 1 - t)) (le-leb t (room - 1) (omega (arith, enough)))
      (sooner t size (room - 1 - t) apart (subst (λ n. finishes e local (suc t) size n ≡ true) same parts.1))

  less_before_dev : (t size room : ℕ) → (t ≡ 1 → ⊥) → can_complete_dev e local (suc t) size room ≡ true → can_complete_dev e local t size (room - 1) ≡ true
  less_before_dev t size room apart h =
      let left : ℕ = room - (suc t + 1) in
      let other : Bool = nat_le 3 left && can_fill_from e local size (left - 3) in
      let parts = and_parts (nat_le (suc t + 1) room) (finishes e local (suc t) size left || other) h in
      let enough : suc t + 1 ≤ room = leb-true (suc t + 1) room parts.0 in
      let same : left ≡ room - 1 - (t + 1) = omega arith in
      let either : (finishes e local t size left || other) ≡ true = sooner_or (or_cases (finishes e local (suc t) size left) other parts.1) in
      and_from (nat_le (t + 1) (room - 1)) _ (le-leb (t + 1) (room - 1) (omega (arith, enough)))
      (subst (λ n. (finishes e local t size n || (nat_le 3 n && can_fill_from e local size (n - 3))) ≡ true) same either)
    where
      sooner_or : {other : Bool} → (finishes e local (suc t) size (room - (suc t + 1)) ≡ true) ⊎ (other ≡ true)
          → (finishes e local t size (room - (suc t + 1)) || other) ≡ true
      sooner_or {other} (inl f) = or_left (finishes e local t size (room - (suc t + 1))) other (sooner t size (room - (suc t + 1)) apart f)
      sooner_or {other} (inr o) = or_right (finishes e local t size (room - (suc t + 1))) other o

  less_of_entries : (dev : Option (List DevDef)) (t size room : ℕ) → (t ≡ 1 → ⊥) → entries_complete e dev local (suc t) size room ≡ true
      → entries_complete e dev local t size (room - 1) ≡ true
  less_of_entries None t size room apart h = less_to_come t size room apart h
  less_of_entries (Some defs) t size room apart h = less_before_dev t size room apart h

  -- where no field has come
  all_open : (dev : Option (List DevDef)) (t size room : ℕ) → 2 ≤ t → size ≡ 0 → t + dev_count_byte dev ≤ room → entries_complete e dev local t size room ≡ true
  all_open None t size room more none enough =
      and_from (nat_le t room) _ (le-leb t room (omega (arith, enough))) (finishes_open t size (room - t) more (fills_open size (room - t) none))
  all_open (Some defs) t size room more none enough =
      and_from (nat_le (t + 1) room) _ (le-leb (t + 1) room (omega (arith, enough)))
      (or_left (finishes e local t size (room - (t + 1))) _ (finishes_open t size (room - (t + 1)) more (fills_open size (room - (t + 1)) none)))

-- ---- definition messages

module _ {A : Type 0} (e : Environment A) (sixteen : length e.places ≡ 16) where
  defined_on : (room : ℕ) (d : MessageDef A) → d.local < 16 → can_fill_with e d.local (body_length d) room ≡ true → GoesOn e (Ok (start room, Some (Define d)))
  defined_on room d low h =
      (can_fill_is (learn e (Define d)) room (length-set e.places d.local _ ∙ sixteen)).1 ((can_fill_after e d room sixteen low).0 h)

  whole_on : (room : ℕ) (d : MessageDef A) → d.local < 16 → can_complete e d.local 0 (body_length d) room ≡ true → GoesOn e (Ok (start room, Some (Define d)))
  whole_on room d low h =
      let parts = and_parts (nat_le 0 room) (finishes e d.local 0 (body_length d) (room - 0)) h in
      let same : room - 0 ≡ room = omega arith in
      defined_on room d low (subst (λ n. can_fill_with e d.local (body_length d) n ≡ true) same
      (with_of e d.local 0 (body_length d) (room - 0) (omega arith) parts.1))

  after_on : (room : ℕ) (d : MessageDef A) (dev : Option (List DevDef)) → d.dev ≡ dev → d.local < 16
      → entries_complete e dev d.local 0 (body_length d) room ≡ true → GoesOn e (Ok (after_fields room d dev))
  after_on room d None is low h = whole_on room d low h
  after_on room d (Some defs) is low h = h

  next_on : (room n : ℕ) (d : MessageDef A) → d.local < 16 → ((n ≡ 0 → ⊥) → entries_complete e d.dev d.local (3 + 3 * (n - 1)) (body_length d) room ≡ true)
      → (n ≡ 0 → entries_complete e d.dev d.local 0 (body_length d) room ≡ true) → GoesOn e (Ok (next_field n room d))
  next_on room n d low some none =
      cond_both (n == 0) _ _ (λ m. GoesOn e (Ok m))
      (λ z. after_on room d d.dev refl low (none (eqb-true n 0 z)))
      (λ z. some (eqb-false n 0 z))

  next_dev_on : (room n : ℕ) (d : MessageDef A) → d.local < 16 → ((n ≡ 0 → ⊥) → can_complete e d.local (3 + 3 * (n - 1)) (body_length d) room ≡ true)
      → (n ≡ 0 → can_complete e d.local 0 (body_length d) room ≡ true) → GoesOn e (Ok (next_dev n room d))
  next_dev_on room n d low some none =
      cond_both (n == 0) _ _ (λ m. GoesOn e (Ok m))
      (λ z. whole_on room d low (none (eqb-true n 0 z)))
      (λ z. some (eqb-false n 0 z))

-- the number of fields, or a byte before it
front_on : (least come room : ℕ) → 0 < room → nat_le least (come + room) ≡ true → nat_le least (suc come + (room - 1)) ≡ true
front_on least come room some h = let same : come + room ≡ suc come + (room - 1) = omega (arith, some) in subst (λ n. nat_le least n ≡ true) same h

new_length : {A : Type 0} (d : MessageDef A) → IsNew d → body_length d ≡ 0
new_length d h = go d.dev h.dev (ap (sum_by (λ (f : FieldDef). f.size)) h.fields)
  where
    go : (dev : Option (List DevDef)) → HasNone dev → {n : ℕ} → n ≡ 0 → n + sum_by (λ (f : DevDef). f.size) (dev_defs dev) ≡ 0
    go None none is = omega (arith, is)
    go (Some defs) none is = let empty : sum_by (λ (f : DevDef). f.size) defs ≡ 0 = ap (sum_by (λ (f : DevDef). f.size)) none in omega (arith, is, empty)

empty_on : {A : Type 0} (e : Environment A) (local : ℕ) (dev : Option (List DevDef)) (size room : ℕ) → size ≡ 0 → dev_count_byte dev ≤ room
    → entries_complete e dev local 0 size room ≡ true
empty_on e local None size room none enough =
    and_from (nat_le 0 room) _ (le-leb 0 room (omega arith)) (finishes_with e local 0 size (room - 0) (omega arith) (fills_empty e local size (room - 0) none))
empty_on e local (Some defs) size room none enough =
    and_from (nat_le 1 room) _ (le-leb 1 room (omega (arith, enough)))
    (or_left (finishes e local 0 size (room - 1)) _ (finishes_with e local 0 size (room - 1) (omega arith) (fills_empty e local size (room - 1) none)))

-- the length of data messages with one field more, and with one developer field more
one_field : {A : Type 0} (d : MessageDef A) (f : FieldDef) → body_length (record d { fields = d.fields ++ f ∷ [] }) ≡ body_length d + f.size
one_field d f = omega (arith, sum_by-append (λ (f : FieldDef). f.size) d.fields (f ∷ []), sum_by-cons (λ (f : FieldDef). f.size) f [])

one_dev : {A : Type 0} (d : MessageDef A) (f : DevDef) → body_length (record d { dev = Some (dev_defs d.dev ++ f ∷ []) }) ≡ body_length d + f.size
one_dev d f = omega (arith, sum_by-append (λ (f : DevDef). f.size) (dev_defs d.dev) (f ∷ []), sum_by-cons (λ (f : DevDef). f.size) f [])

module _ {A : Type 0} (e : Environment A) (sixteen : length e.places ≡ 16) where
  -- one byte of entries has come, and the sizes are these
  fewer : (local : ℕ) (dev : Option (List DevDef)) (t u size total room : ℕ) → t ≡ suc u → (u ≡ 1 → ⊥) → total ≡ size
      → entries_complete e dev local t size room ≡ true → entries_complete e dev local u total (room - 1) ≡ true
  fewer local dev t u size total room is apart same h =
      subst (λ s. entries_complete e dev local u s (room - 1) ≡ true) (sym same)
      (less_of_entries e local dev u size room apart (subst (λ n. entries_complete e dev local n size room ≡ true) is h))

  definition_on : (k : DefinitionPhase) (room : ℕ) (d : MessageDef A) (b : ℕ) → IsDefinitionPart k d → definition_rest k d ≤ room
      → definition_goes_on e k d room ≡ true → GoesOn e (definition_move (tests_of e) k room d b)
  unfolding definition_move
  definition_on Reserved room d b h less on = front_on _ 0 room (omega (arith, less)) on
  definition_on AtArchitecture room d b h less on =
      cond_both (b == 0) _ _ (λ n. GoesOn e n) (λ z. front_on _ 1 room (omega (arith, less)) on)
      (λ z. cond_both (b == 1) _ _ (λ n. GoesOn e n) (λ y. front_on _ 1 room (omega (arith, less)) on) (λ y. tt))
  definition_on GlobalFirst room d b h less on = front_on _ 2 room (omega (arith, less)) on
  definition_on (GlobalSecond first) room d b h less on = front_on _ 3 room (omega (arith, less)) on
  definition_on FieldCount room d b h less on =
      cond_both (nat_lt room (1 + 3 * b + dev_count_byte d.dev)) _ _ (λ n. GoesOn e n) (λ z. tt)
      (λ z.
      let within = ltb-false room (1 + 3 * b + dev_count_byte d.dev) z in
      next_on e sixteen (room - 1) b d h.local
      (λ some. all_open e d.local d.dev (3 + 3 * (b - 1)) (body_length d) (room - 1) (omega arith) (new_length d h) (omega (arith, within, some)))
      (λ none. empty_on e d.local d.dev (body_length d) (room - 1) (new_length d h) (omega (arith, within, none))))
  definition_on (FieldNumber left) room d b h less on =
      fewer d.local d.dev (3 + 3 * (left - 1)) (2 + 3 * (left - 1)) (body_length d) (body_length d) room (omega arith) (omega arith) refl on
  definition_on (FieldSize left number) room d b h less on =
      cond_both (entries_complete e d.dev d.local (1 + 3 * (left - 1)) (body_length d + b) (room - 1)) _ _ (λ n. GoesOn e n) (λ z. z) (λ z. tt)
  definition_on (FieldCode left number size) room d b h less on =
      let f : FieldDef = record { number = number; size = size; code = b } in
      let more : MessageDef A = record d { fields = d.fields ++ f ∷ [] } in
      next_on e sixteen (room - 1) (left - 1) more h.local
      (λ some. fewer d.local d.dev (1 + 3 * (left - 1)) (3 + 3 * (left - 1 - 1)) (body_length d + size) (body_length more) room (omega (arith, some))
      (omega arith) (one_field d f) on)
      (λ none. fewer d.local d.dev (1 + 3 * (left - 1)) 0 (body_length d + size) (body_length more) room (omega (arith, none)) (omega arith) (one_field d f) on)
  definition_on DevCount room d b h less on =
      cond_both (nat_lt room (1 + 3 * b)) _ _ (λ n. GoesOn e n) (λ z. tt)
      (λ z. cond_both (can_complete e d.local (3 * b) (body_length d) (room - 1)) _ _ (λ n. GoesOn e n)
      (λ y. next_dev_on e sixteen (room - 1) b d h.0.local
      (λ some. subst (λ n. can_complete e d.local n (body_length d) (room - 1) ≡ true) (let same : 3 * b ≡ 3 + 3 * (b - 1) = omega (arith, some) in same) y)
      (λ none. subst (λ n. can_complete e d.local n (body_length d) (room - 1) ≡ true) (let same : 3 * b ≡ 0 = omega (arith, none) in same) y))
      (λ y. tt))
  definition_on (DevNumber left) room d b h less on =
      fewer d.local None (3 + 3 * (left - 1)) (2 + 3 * (left - 1)) (body_length d) (body_length d) room (omega arith) (omega arith) refl on
  definition_on (DevSize left number) room d b h less on =
      cond_both (can_complete e d.local (1 + 3 * (left - 1)) (body_length d + b) (room - 1)) _ _ (λ n. GoesOn e n) (λ z. z) (λ z. tt)
  definition_on (DevIndex left number size) room d b h less on =
      let f : DevDef = record { number = number; size = size; index = b } in
      let more : MessageDef A = record d { dev = Some (dev_defs d.dev ++ f ∷ []) } in
      next_dev_on e sixteen (room - 1) (left - 1) more h.0.local
      (λ some. fewer d.local None (1 + 3 * (left - 1)) (3 + 3 * (left - 1 - 1)) (body_length d + size) (body_length more) room (omega (arith, some))
      (omega arith) (one_dev d f) on)
      (λ none. fewer d.local None (1 + 3 * (left - 1)) 0 (body_length d + size) (body_length more) room (omega (arith, none)) (omega arith) (one_dev d f) on)

  -- ---- record headers

  message_on : (room b : ℕ) (o : Option (Defined A)) → defined_at e (local_type b) ≡ o → GoesOn e (message_move (tests_of e) room b o)
  unfolding message_move
  message_on room b None known = tt
  message_on room b (Some p) known =
      cond_both (nat_lt room (1 + message_size p)) _ _ (λ n. GoesOn e n) (λ z. tt)
      (λ z. cond_both (can_fill e (room - (1 + message_size p))) _ _ (λ n. GoesOn e n)
      (λ y.
      let same : room - 1 - message_size p ≡ room - (1 + message_size p) = omega arith in
      begun_on e (room - 1) (message_size p) (begun_message room b p) (message_begins e room b p known) (ap (can_fill e) same ∙ y))
      (λ y. tt))

  begins_on : (dev : Bool) (room : ℕ) → cond dev 7 6 ≤ room → nat_le (cond (has_dev (new_dev dev)) 6 5) (0 + (room - 1)) ≡ true
  begins_on true room enough = le-leb 6 (0 + (room - 1)) (omega (arith, enough))
  begins_on false room enough = le-leb 5 (0 + (room - 1)) (omega (arith, enough))

  header_on : (room b : ℕ) → GoesOn e (header_move e (tests_of e) room b)
  unfolding header_move
  header_on room b =
      cond_both (has_reserved_bit b) _ _ (λ n. GoesOn e n) (λ z. tt)
      (λ z. cond_both (is_definition b) _ _ (λ n. GoesOn e n)
      (λ y. cond_both (nat_lt room (least_definition b)) _ _ (λ n. GoesOn e n) (λ x. tt)
      (λ x. begins_on (has_developer_fields b) room (ltb-false room (least_definition b) x)))
      (λ y. message_on room b (defined_at e (local_type b)) refl))

  -- ---- all of it

  pub goes : (room : ℕ) (f : RecordPart A) (b : ℕ) → IsPart e f → least_rest e (state_of room f) ≤ room → goes_on e (state_of room f) ≡ true
      → GoesOn e (step e (tests_of e) (state_of room f) b)
  unfolding step
  goes room nothing b h less on = header_on room b
  goes room (in_definition k d) b h less on = definition_on k room d b h less on
  goes room (in_fields local offset t dev) b (p, known, header, s, same) less on =
      let some = s.some in
      begun_on e (room - 1) _ _ (field_byte e (length t.done) _ t.left room _ t.partial b some)
      (one_less e room (t.left + fields_rest e (length t.done) local) (omega (arith, some)) on)
  goes room (in_dev_fields local offset items t) b (p, known, header, shapes, s) less on =
      let some = s.some in
      begun_on e (room - 1) _ _ (dev_byte e (length t.done) _ t.left room _ t.partial b some)
      (one_less e room (t.left + dev_rest e (length t.done) local) (omega (arith, some)) on)
