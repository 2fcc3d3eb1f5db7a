-- Which definitions can be completed while the number of their fields, or something before it, is to come.
use Rattle.fit_record.proofs.Common.{◌≡◌, ℕ, zero, suc, ◌+◌, ◌-◌, ◌*◌, ◌/◌, ◌%◌, ◌<◌, ◌≤◌, ◌^◌, ◌↔◌, IsTrue, Bool, true, false, List, [], ◌∷◌, ◌++◌, length}
use Rattle.fit_record.proofs.Common.{refl, sym, ap, ◌∙◌, subst, arith, lit<, length-append, None, Some, sum_by, flat_map, ◌==◌, ◌||◌, if◌then◌else◌, unwrap_or}
use Rattle.fit_record.proofs.Common.{option_map, slice_index, or_right, eq-eqb, leb-true, le-leb, Order, Little, Big, IsBytes, number_bytes, number}
use Rattle.fit_record.proofs.Common.{IsBytes-append, IsBytes-cons, IsBytes-none, IsBytes-zeros, DevDef, MessageDef, Environment, dev_defs, architecture}
use Rattle.fit_record.proofs.Common.{field_bytes, dev_part, definition_bytes, others_have, can_complete_front, CanComplete, body_length, replicate, Option}
use Rattle.fit_record.proofs.RoomSums.{fills_by_ones}
use Rattle.fit_record.proofs.DefinitionInPlace.{can_fill_after}

-- ---- the least definitions

-- no developer fields, or none of them
no_devs : Bool → Option (List DevDef)
no_devs true = Some []
no_devs false = None

two_bytes : (o : Order) (a b : ℕ) → a < 256 → b < 256 → (number_bytes o 2 (number o (a ∷ b ∷ [])) ≡ a ∷ b ∷ []) × (number o (a ∷ b ∷ []) < 2 ^ 16)
two_bytes Little a b p q =
    let n = a + 256 * (b + 256 * 0) in
    let low : n % 256 ≡ a = omega arith in let high : n / 256 % 256 ≡ b = omega arith in
    (cc (low, high), omega arith)
two_bytes Big a b p q =
    let n = b + 256 * (a + 256 * 0) in
    let low : n % 256 ≡ b = omega arith in let high : n / 256 % 256 ≡ a = omega arith in
    (cc (low, high), omega arith)

module _ (dev : Bool) where
  header_is : (local : ℕ) → 0x40 + local + unwrap_or (option_map (λ _. 0x20) (no_devs dev)) 0 ≡ 0x40 + local + (if dev then 0x20 else 0)
  unfolding no_devs
  header_is local = elim dev as (λ b. 0x40 + local + unwrap_or (option_map (λ _. 0x20) (no_devs b)) 0 ≡ 0x40 + local + (if b then 0x20 else 0))
      [ true ↦ refl | false ↦ refl ]

  dev_bytes : IsBytes (dev_part (no_devs dev))
  unfolding no_devs
  dev_bytes = elim dev as (λ b. IsBytes (dev_part (no_devs b))) [ true ↦ IsBytes-cons 0 [] (lit< tt) IsBytes-none | false ↦ IsBytes-none ]

  after_zeros : (n : ℕ) → IsBytes (replicate n 0 ++ dev_part (no_devs dev))
  after_zeros n = IsBytes-append (replicate n 0) (dev_part (no_devs dev)) (IsBytes-zeros n) dev_bytes

  dev_least : (if dev then 6 else 5) ≡ 5 + length (dev_part (no_devs dev))
  unfolding no_devs
  dev_least = elim dev as (λ b. (if b then 6 else 5) ≡ 5 + length (dev_part (no_devs b))) [ true ↦ refl | false ↦ refl ]

  dev_none : dev_defs (no_devs dev) ≡ []
  unfolding no_devs
  dev_none = elim dev as (λ b. dev_defs (no_devs b) ≡ []) [ true ↦ refl | false ↦ refl ]

module _ {A : Type 0} (e : Environment A) (local : ℕ) (dev : Bool) (room : ℕ) (sixteen : length e.places ≡ 16) (below : local < 16) where
  -- the rest of a least definition, and then messages of one byte
  goes_on_least : (o : Order) (r a b : ℕ) (part rest : List ℕ) → a < 256 → b < 256
      → r ∷ architecture o ∷ a ∷ b ∷ 0 ∷ dev_part (no_devs dev) ≡ part ++ rest → IsBytes rest → length rest ≤ room
      → CanComplete e (0x40 + local + (if dev then 0x20 else 0)) part room
  goes_on_least o r a b part rest p q spelled are come =
      let two = two_bytes o a b p q in
      let c : MessageDef A = record { local = local; reserved = r; order = o; global = number o (a ∷ b ∷ []); fields = []; dev = no_devs dev } in
      let devs : sum_by (λ (f : DevDef). f.size) (dev_defs (no_devs dev)) ≡ 0 = ap (sum_by (λ (f : DevDef). f.size)) (dev_none dev) in
      let none : body_length c ≡ 0 = omega (arith, devs) in (
        c,
        rest,
        room - length rest,
        record { local = below; global = two.1; fields = lit< tt; dev_fields = subst (λ ds. length ds < 256) (sym (dev_none dev)) (lit< tt) },
        header_is dev local,
        ap (λ bs. ((r ∷ architecture o ∷ bs) ++ (0 ∷ [])) ++ dev_part (no_devs dev)) two.0 ∙ spelled,
        are,
        (can_fill_after e c (room - length rest) sixteen below).0
            (fills_by_ones (λ n. others_have e local n || (1 + body_length c == n))
            (or_right (others_have e local 1) _ (eq-eqb (1 + body_length c) 1 (omega (arith, none)))) (room - length rest)),
        omega arith,
      )

  module _ (o : Order) (r : ℕ) where
    after_order : (gs : List ℕ) → length gs < 3 → IsBytes gs → (if dev then 6 else 5) ≤ length gs + 2 + room
        → CanComplete e (0x40 + local + (if dev then 0x20 else 0)) (r ∷ architecture o ∷ gs) room
    after_order [] l are least =
        goes_on_least o r 0 0 (r ∷ architecture o ∷ []) (0 ∷ 0 ∷ 0 ∷ dev_part (no_devs dev)) (lit< tt) (lit< tt) refl
        (after_zeros dev 3) (omega (arith, least, dev_least dev))
    after_order (a ∷ []) l are least =
        goes_on_least o r a 0 (r ∷ architecture o ∷ a ∷ []) (0 ∷ 0 ∷ dev_part (no_devs dev)) (are 0) (lit< tt) refl
        (after_zeros dev 2) (omega (arith, least, dev_least dev))
    after_order (a ∷ b ∷ []) l are least =
        goes_on_least o r a b (r ∷ architecture o ∷ a ∷ b ∷ []) (0 ∷ dev_part (no_devs dev)) (are 0) (are 1) refl
        (after_zeros dev 1) (omega (arith, least, dev_least dev))
    after_order (a ∷ b ∷ c ∷ gs) l are least = absurd (omega arith)

  begins : (part : List ℕ) → length part < 5 → slice_index part 1 < 2 → IsBytes part → (if dev then 6 else 5) ≤ length part + room
      → CanComplete e (0x40 + local + (if dev then 0x20 else 0)) part room
  begins [] l arch are least =
      goes_on_least Little 0 0 0 [] (0 ∷ 0 ∷ 0 ∷ 0 ∷ 0 ∷ dev_part (no_devs dev)) (lit< tt) (lit< tt) refl
      (after_zeros dev 5) (omega (arith, least, dev_least dev))
  begins (r ∷ []) l arch are least =
      goes_on_least Little r 0 0 (r ∷ []) (0 ∷ 0 ∷ 0 ∷ 0 ∷ dev_part (no_devs dev)) (lit< tt) (lit< tt) refl
      (after_zeros dev 4) (omega (arith, least, dev_least dev))
  begins (r ∷ zero ∷ gs) l arch are least = after_order Little r gs (omega arith) (λ i. are (suc (suc i))) (omega (arith, least))
  begins (r ∷ suc zero ∷ gs) l arch are least = after_order Big r gs (omega arith) (λ i. are (suc (suc i))) (omega (arith, least))
  begins (r ∷ suc (suc a) ∷ gs) l arch are least = absurd (omega arith)

-- ---- every definition is as long

past_entries : (o : Order) (g n : ℕ) (xs ys : List ℕ) → 3 + length ys ≤ length (number_bytes o 2 g ++ n ∷ xs ++ ys)
past_entries Little g n xs ys = omega (arith, length-append xs ys)
past_entries Big g n xs ys = omega (arith, length-append xs ys)

least_length : {A : Type 0} (c : MessageDef A) → 5 + length (dev_part c.dev) ≤ length (definition_bytes c)
least_length c = let k = past_entries c.order c.global (length c.fields) (flat_map field_bytes c.fields) (dev_part c.dev) in omega (arith, k)

least_dev : (dev : Bool) (u : Option (List DevDef)) (l m : ℕ) → l < 16 → m < 16
    → 0x40 + l + unwrap_or (option_map (λ _. 0x20) u) 0 ≡ 0x40 + m + (if dev then 0x20 else 0)
    → (if dev then 6 else 5) ≤ 5 + length (dev_part u)
least_dev true None l m p q e = absurd (omega arith)
least_dev _ _ l m p q e = omega arith

-- where the number of fields, or something before it, is to come
pub front_can_complete : {A : Type 0} (e : Environment A) (local : ℕ) (dev : Bool) (part : List ℕ) (room : ℕ) → length e.places ≡ 16 → local < 16
    → length part < 5 → slice_index part 1 < 2 → IsBytes part
    → IsTrue (can_complete_front dev (length part) room) ↔ CanComplete e (0x40 + local + (if dev then 0x20 else 0)) part room
front_can_complete e local dev part room sixteen below l arch are = (to, from) where
  to : IsTrue (can_complete_front dev (length part) room) → CanComplete e (0x40 + local + (if dev then 0x20 else 0)) part room
  to h = begins e local dev room sixteen below part l arch are (leb-true (if dev then 6 else 5) (length part + room) h)

  from : CanComplete e (0x40 + local + (if dev then 0x20 else 0)) part room → IsTrue (can_complete_front dev (length part) room)
  from (c, rest, left, fits, header, spelled, bytes, fill, total) =
      let least = least_dev dev c.dev c.local local fits.local below header in
      le-leb (if dev then 6 else 5) (length part + room) (omega (arith, least, least_length c, ap length spelled, length-append part rest))
