-- The last byte of a record adds an entry or a number to it, or nothing, and that can be taken away again.
use Rattle.fit_step.proofs.Common.{◌≡◌, ◌↔◌, ℕ, zero, suc, ◌+◌, ◌-◌, ◌*◌, ◌<◌, Bool, true, false, cond, List, [], ◌∷◌, ◌++◌, length, get_or, set, refl, sym, ap}
use Rattle.fit_step.proofs.Common.{◌∙◌, subst, arith, length-append, Some, None, Ok, Option, IsSome, option_to_list, nat_lt, cond_both, cond-true, eqb-true}
use Rattle.fit_step.proofs.Common.{Items, Order, DevDef, MessageDef, Record, Define, Data, Values, Environment, dev_defs, layout, dev_layout, order_at, number}
use Rattle.fit_step.proofs.Common.{DefinitionPhase, AtArchitecture, FieldCount, FieldSize, FieldCode, DevCount, DevSize, DevIndex, Definition, FieldItems}
use Rattle.fit_step.proofs.Common.{DevItems, Tests, State, Step, NextState, start, step, no_items, add_number, with_number, layout_at, dev_layout_at}
use Rattle.fit_step.proofs.Common.{field_move, dev_move, definition_move, after_fields, next_field, next_dev, dev_count_byte, RecordPart, nothing}
use Rattle.fit_step.proofs.Common.{in_definition, in_fields, in_dev_fields, TakenFields, IsTaking, IsPart, IsDefinitionPart, state_of, width_of, all_items}
use Rattle.fit_step.proofs.Common.{PartFitsRoom, Adds, AddsEntry, front_back, ◌==◌, drop, map}
use Rattle.fit_step.proofs.Preconditions.{as_defined}
use Rattle.fit_step.proofs.Takes.{ends_number, whole_at}
use Rattle.fit_step.proofs.EmptyMessages.{dev_whole, fields_whole}

same_front : {X : Type 0} (xs ys : List X) (x y : X) → xs ++ x ∷ [] ≡ ys ++ y ∷ [] → xs ≡ ys
same_front xs ys x y e =
    (front_back xs ys (x ∷ []) (y ∷ []) (omega (arith, ap length e, length-append xs (x ∷ []), length-append ys (y ∷ []))) e).0

no_element : (X : Type 0) → IsSome {T = X} None → ⊥
no_element X h = cc

-- what `pop` leaves of a list with one element more
pub popped : {X : Type 0} (all left xs : List X) (r : Option X) (x : X) → all ≡ left ++ option_to_list r → IsSome r ↔ (0 < length all) → all ≡ xs ++ x ∷ []
    → left ≡ xs
popped all left xs (Some y) x is some more = same_front left xs y x (sym is ∙ more)
popped {X} all left xs None x is some more =
    let count : length all ≡ length xs + 1 = ap length more ∙ length-append xs (x ∷ []) in
    absurd (no_element X (some.1 (omega (arith, count))))

set_back_at : {A : Type 0} (before : List (Items A)) (k n : ℕ) (l : Items A) (bits : List ℕ) (r : Option ℕ) → k < length before
    → l ≡ get_or (add_number k before n) k l
    → l.bits ≡ bits ++ option_to_list r → IsSome r ↔ (0 < length l.bits) → set (add_number k before n) k (record { width = l.width; bits = bits }) ≡ before
set_back_at [] k n l bits r below here is some = absurd (omega arith)
set_back_at (i ∷ before) zero n l bits r below here is some =
    let numbers : l.bits ≡ i.bits ++ n ∷ [] = ap (λ (x : Items _). x.bits) here in
    let width : l.width ≡ i.width = ap (λ (x : Items _). x.width) here in
    let left : bits ≡ i.bits = popped l.bits bits i.bits r n is some numbers in
    λ j. (record { width = width j; bits = left j }) ∷ before
set_back_at (i ∷ before) (suc k) n l bits r below here is some = ap (λ t. i ∷ t) (set_back_at before k n l bits r (omega arith) here is some)

-- the fields without the number that has come last
pub number_taken : {A : Type 0} (items fields before : List (Items A)) (k n : ℕ) (l : Items A) (bits : List ℕ) (r : Option ℕ) → items ≡ fields
    → fields ≡ add_number k before n → k < length before
    → l ≡ get_or items k l → l.bits ≡ bits ++ option_to_list r → IsSome r ↔ (0 < length l.bits) → set items k (record { width = l.width; bits = bits }) ≡ before
number_taken {A} items fields before k n l bits r same more below here is some =
    let all : items ≡ add_number k before n = same ∙ more in
    ap (λ (x : List (Items A)). set x k (record { width = l.width; bits = bits })) all
    ∙ set_back_at before k n l bits r below (here ∙ ap (λ (x : List (Items A)). get_or x k l) all) is some

pub length-add_number : {A : Type 0} (k : ℕ) (items : List (Items A)) (n : ℕ) → length (add_number k items n) ≡ length items
length-add_number k [] n = refl
length-add_number zero (i ∷ items) n = refl
length-add_number (suc k) (i ∷ items) n = ap suc (length-add_number k items n)

-- ---- what the last byte adds

module _ {A : Type 0} (t : State A) (r : Record A) where
  abbrev Ends : Step A → Type 0
  Ends n = n ≡ Ok (t, Some r)

  not_whole : (u : State A) → Ends (Ok (u, None)) → ⊥
  not_whole u made = let same : (u, None) ≡ (t, Some r) = cc in let none : None ≡ Some r = ap (λ (n : NextState A). n.1) same in cc

  whole_is : (u : State A) (q : Record A) → Ends (Ok (u, Some q)) → q ≡ r
  whole_is u q made = let same : (u, Some q) ≡ (t, Some r) = cc in let some : Some q ≡ Some r = ap (λ (n : NextState A). n.1) same in cc

  -- entries of a definition message
  module _ (k : DefinitionPhase) (d c : MessageDef A) (adds : AddsEntry k d c) where
    abbrev AddsTo : Step A → Type 0
    AddsTo n = Ends n → Adds (Definition k) (Some (Define d)) r

    definition_adds : (u : State A) → AddsTo (Ok (u, Some (Define c)))
    definition_adds u made = subst (Adds (Definition k) (Some (Define d))) (whole_is u (Define c) made) adds

    after_adds : (room : ℕ) (dev : Option (List DevDef)) → AddsTo (Ok (after_fields room c dev))
    after_adds room None = λ made. definition_adds (start room) made
    after_adds room (Some defs) = λ made. absurd (not_whole _ made)

    next_adds : (n room : ℕ) → AddsTo (Ok (next_field n room c))
    next_adds n room = cond_both (n == 0) _ _ (λ m. AddsTo (Ok m)) (λ z. after_adds room c.dev) (λ z made. absurd (not_whole _ made))

    next_dev_adds : (n room : ℕ) → AddsTo (Ok (next_dev n room c))
    next_dev_adds n room = cond_both (n == 0) _ _ (λ m. AddsTo (Ok m)) (λ z made. definition_adds (start room) made) (λ z made. absurd (not_whole _ made))

  entry_adds : (tests : Tests A) (k : DefinitionPhase) (room : ℕ) (d : MessageDef A) (b : ℕ) → IsDefinitionPart k d → Ends (definition_move tests k room d b)
      → Adds (Definition k) (Some (Define d)) r
  unfolding definition_move
  entry_adds tests AtArchitecture room d b h =
      cond_both (b == 0) _ _ (λ n. Ends n → Adds (Definition AtArchitecture) (Some (Define d)) r) (λ z made. absurd (not_whole _ made))
      (λ z. cond_both (b == 1) _ _ (λ n. Ends n → Adds (Definition AtArchitecture) (Some (Define d)) r) (λ y made. absurd (not_whole _ made))
      (λ y made. absurd cc))
  entry_adds tests FieldCount room d b h =
      cond_both (nat_lt room (1 + 3 * b + dev_count_byte d.dev)) _ _ (λ n. Ends n → Adds (Definition FieldCount) (Some (Define d)) r) (λ z made. absurd cc)
      (λ z. next_adds FieldCount d d refl b (room - 1))
  entry_adds tests (FieldSize left number) room d b h =
      cond_both (tests.field_size d (left - 1) (room - 1) b) _ _ (λ n. Ends n → Adds (Definition (FieldSize left number)) (Some (Define d)) r)
      (λ z made. absurd (not_whole _ made)) (λ z made. absurd cc)
  entry_adds tests (FieldCode left number size) room d b h =
      next_adds (FieldCode left number size) d (record d { fields = d.fields ++ (record { number = number; size = size; code = b }) ∷ [] })
      (record { number = number; size = size; code = b }, refl) (left - 1) (room - 1)
  entry_adds tests DevCount room d b h =
      cond_both (nat_lt room (1 + 3 * b)) _ _ (λ n. Ends n → Adds (Definition DevCount) (Some (Define d)) r) (λ z made. absurd cc)
      (λ z. cond_both (tests.dev_count d (room - 1) b) _ _ (λ n. Ends n → Adds (Definition DevCount) (Some (Define d)) r)
      (λ y. next_dev_adds DevCount d d refl b (room - 1)) (λ y made. absurd cc))
  entry_adds tests (DevSize left number) room d b h =
      cond_both (tests.dev_size d (left - 1) (room - 1) b) _ _ (λ n. Ends n → Adds (Definition (DevSize left number)) (Some (Define d)) r)
      (λ z made. absurd (not_whole _ made)) (λ z made. absurd cc)
  entry_adds tests (DevIndex left number size) room d b h =
      next_dev_adds (DevIndex left number size) d (record d { dev = Some (dev_defs d.dev ++ (record { number = number; size = size; index = b }) ∷ []) })
      (record { number = number; size = size; index = b }, subst IsSome (sym h.0.dev) refl, refl) (left - 1) (room - 1)
  entry_adds tests k room d b h = λ made. absurd (not_whole _ made)

  whole_of : (n : NextState A) → Ends (Ok n) → n ≡ (t, Some r)
  whole_of n made = cc

-- the last byte of a field ends a number
ends_one : (c : Bool) (bytes : List ℕ) (b : ℕ) → cond c [] (bytes ++ b ∷ []) ≡ [] → c ≡ true
ends_one true bytes b none = refl
ends_one false bytes b none = absurd (let count : length (bytes ++ b ∷ []) ≡ 0 = ap length none in omega (arith, count, length-append bytes (b ∷ [])))

number_added : {A : Type 0} (o : Order) (all : List (ℕ × ℕ)) (t : TakenFields A) (b : ℕ) (items : List (Items A)) (place : ℕ) → IsTaking all t → b < 256
    → t.left ≡ 1
    → with_number o (width_of t) place items (t.partial ++ b ∷ []) ≡ add_number place items (number o (t.partial ++ b ∷ []))
number_added o all t b items place s low last =
    cond-true (ends_number t b) _ _ (ends_one (ends_number t b) t.partial b (whole_at (ends_number t b) o all t b refl s low last).0)

place_within : {A : Type 0} (all : List (ℕ × ℕ)) (t : TakenFields A) → IsTaking all t → length t.done < length (all_items t)
place_within all t s =
    let listed : length all ≡ length t.done + suc (length t.to_come) = ap length s.layout ∙ length-append t.done (t.field ∷ t.to_come) in
    omega (arith, listed, as_defined all t s)

module _ {A : Type 0} (e : Environment A) (tests : Tests A) (b : ℕ) (low : b < 256) (t : State A) (r : Record A) where
  part_adds : (room : ℕ) (f : RecordPart A) → IsPart e f → step e tests (state_of room f) b ≡ Ok (t, Some r)
      → Adds (state_of room f).phase (state_of room f).in_progress r
  unfolding step field_move dev_move
  part_adds room nothing h made = refl
  part_adds room (in_definition k d) h made = entry_adds t r tests k room d b h made
  part_adds room (in_fields local offset u dev) (p, known, header, s, same) made =
      let o = order_at e local in
      let v : Values A = record { local = local; offset = offset; fields = all_items u; dev = map no_items dev } in
      cond_both (u.left == 1) _ _ (λ n. n ≡ Ok (t, Some r) → Adds (FieldItems (length u.done) (width_of u) u.left) (Some (Data v)) r)
      (λ z ends.
      let last = eqb-true u.left 1 z in
      subst (Adds (FieldItems (length u.done) (width_of u) u.left) (Some (Data v)))
      (fields_whole (room - 1) _ (suc (length u.done)) (drop (suc (length u.done)) (layout_at e local)) (dev_layout_at e local) t r (whole_of t r _ ends)) (
        number o (u.partial ++ b ∷ []),
        place_within (layout p) u s,
        ap (λ i. record v { fields = i }) (number_added o (layout p) u b (all_items u) (length u.done) s low last),
      ))
      (λ z ends. absurd (not_whole t r _ ends)) made
  part_adds room (in_dev_fields local offset items u) (p, known, header, shapes, s) made =
      let o = order_at e local in
      let v : Values A = record { local = local; offset = offset; fields = items; dev = all_items u } in
      cond_both (u.left == 1) _ _ (λ n. n ≡ Ok (t, Some r) → Adds (DevItems (length u.done) (width_of u) u.left) (Some (Data v)) r)
      (λ z ends.
      let last = eqb-true u.left 1 z in
      subst (Adds (DevItems (length u.done) (width_of u) u.left) (Some (Data v)))
      (dev_whole (room - 1) _ (suc (length u.done)) (drop (suc (length u.done)) (dev_layout_at e local)) t r (whole_of t r _ ends)) (
        number o (u.partial ++ b ∷ []),
        place_within (dev_layout p) u s,
        ap (λ i. record v { dev = i }) (number_added o (dev_layout p) u b (all_items u) (length u.done) s low last),
      ))
      (λ z ends. absurd (not_whole t r _ ends)) made

  pub adds : (s : State A) → PartFitsRoom e s → step e tests s b ≡ Ok (t, Some r) → Adds s.phase s.in_progress r
  adds s h made = subst (λ (u : State A). Adds u.phase u.in_progress r) (sym h.is)
      (part_adds s.room h.part h.is_part (ap (λ u. step e tests u b) (sym h.is) ∙ made))
