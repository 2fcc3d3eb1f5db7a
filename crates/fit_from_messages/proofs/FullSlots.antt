-- Fields without items, which are passed over in messages.
use Rattle.std.proofs.Common.{◌≡◌, ◌∙◌, inl, inr, ℕ, ◌*◌, ◌+◌, ◌<◌, ◌≤◌, Bool, true, false, List, [], ◌∷◌, ◌++◌, length, refl, sym, ap, arith, flat_map}
use Rattle.std.proofs.lemmas.Bool.{cases_Bool, eqb-true}
use Rattle.std.proofs.lemmas.Bool.Decides.{nat_tests}
use Rattle.std.proofs.lemmas.List.Elements.{All-drop, All-filter}
use Rattle.std.proofs.lemmas.List.Sums.{sum_by-cons}
use Rattle.std.specs.List.{All, filter, list_all}
use Rattle.std.specs.Prelude.{◌==◌, ◌&&◌, max, not, nat_le, sum_by}
use Rattle.fit_base.specs.Fields.{items_bytes}
use Rattle.fit_base.specs.declared.number.Order.{Order}
use Rattle.fit_from_messages.specs.Parts.{items_read, slot_stands}
use Rattle.fit_from_messages.specs.declared.slot.Slot.{Slot}
use Rattle.fit_from_messages.specs.Slots.{IsSlot, slot_size}
use Rattle.fit_from_messages.specs.inner.Slots.{has_items, reach_of}

-- ---- which have items

full : (s : Slot) → has_items s ≡ true → (slot_size s == 0) ≡ false
full s is = elim (cases_Bool (slot_size s == 0)) [ inl e ↦ absurd (cc (ap not e)) | inr n ↦ n ]

empty : (s : Slot) → has_items s ≡ false → slot_size s ≡ 0
empty s is = elim (cases_Bool (slot_size s == 0)) [ inl e ↦ eqb-true (slot_size s) 0 e | inr n ↦ absurd (cc (ap not n)) ]

-- ---- whether they stand

both_reach : (a b n : ℕ) → nat_le (max a b) n ≡ (nat_le a n && nat_le b n)
both_reach a b n = grind (arith, nat_tests)

turned : (a b c : Bool) → (a && (b && c)) ≡ (b && (a && c))
turned true b c = refl
turned false true c = refl
turned false false c = refl

joined : (a b c : Bool) → (a && (b && c)) ≡ ((a && b) && c)
joined true b c = refl
joined false b c = refl

least : (n : ℕ) → nat_le 0 n ≡ true
least n = grind (arith, nat_tests)

pub all_stand : (block : List ℕ) (slots : List Slot)
    → list_all (slot_stands block) slots ≡ (nat_le (reach_of slots) (length block) && list_all (slot_stands block) (filter has_items slots))
all_stand block [] = sym (ap (λ b. b && true) (least (length block)))
all_stand block (s ∷ slots) = elim (cases_Bool (has_items s)) [
  | inl is ↦
      rw is (ap (λ b. slot_stands block s && b) (all_stand block slots)
      ∙ turned (slot_stands block s) (nat_le (reach_of slots) (length block)) (list_all (slot_stands block) (filter has_items slots)))
  | inr none ↦
      let none_left : s.place + s.width * s.count ≡ s.place = omega (arith, empty s none) in
      rw none (ap (λ b. slot_stands block s && b) (all_stand block slots)
      ∙ ap (λ n. nat_le n (length block) && (nat_le (reach_of slots) (length block) && list_all (slot_stands block) (filter has_items slots))) none_left
      ∙ joined (nat_le s.place (length block)) (nat_le (reach_of slots) (length block)) (list_all (slot_stands block) (filter has_items slots))
      ∙ ap (λ b. b && list_all (slot_stands block) (filter has_items slots)) (sym (both_reach s.place (reach_of slots) (length block))))
]

-- ---- how many bytes they have

pub same_sum : (slots : List Slot) → sum_by slot_size (filter has_items slots) ≡ sum_by slot_size slots
same_sum [] = refl
same_sum (s ∷ slots) = elim (cases_Bool (has_items s)) [
  | inl is ↦ rw is (omega (arith, sum_by-cons slot_size s slots, sum_by-cons slot_size s (filter has_items slots), same_sum slots))
  | inr none ↦ rw none (omega (arith, sum_by-cons slot_size s slots, same_sum slots, empty s none))
]

-- ---- their items

no_count : (s : Slot) → IsSlot s → slot_size s ≡ 0 → s.count ≡ 0
no_count s (inl w) none = omega (arith, ap (λ n. n * s.count) (sym w), none)
no_count s (inr (inl w)) none = omega (arith, ap (λ n. n * s.count) (sym w), none)
no_count s (inr (inr (inl w))) none = omega (arith, ap (λ n. n * s.count) (sym w), none)
no_count s (inr (inr (inr w))) none = omega (arith, ap (λ n. n * s.count) (sym w), none)

no_items : (block : List ℕ) (o : Order) (s : Slot) → s.count ≡ 0 → items_bytes o (items_read block s) ≡ []
no_items block o s none = rw none refl

pub same_items : (block : List ℕ) (o : Order) (slots : List Slot) → All IsSlot slots
    → flat_map (λ s. items_bytes o (items_read block s)) (filter has_items slots) ≡ flat_map (λ s. items_bytes o (items_read block s)) slots
same_items block o [] are = refl
same_items block o (s ∷ slots) are =
    let others = same_items block o slots (All-drop IsSlot 1 (s ∷ slots) are) in elim (cases_Bool (has_items s)) [
      | inl is ↦ rw is (ap (λ xs. items_bytes o (items_read block s) ++ xs) others)
      | inr none ↦
          rw none (others ∙ sym (ap (λ xs. xs ++ flat_map (λ s. items_bytes o (items_read block s)) slots)
          (no_items block o s (no_count s (are 0 s (omega arith)) (empty s none)))))
    ]

pub full_slots : (slots : List Slot) → All IsSlot slots → All IsSlot (filter has_items slots)
full_slots slots are = All-filter has_items IsSlot slots are

-- ---- those of a block

pub past_reach : (block : List ℕ) (slots : List Slot) (n : ℕ) → n ≡ length block → n < reach_of slots → list_all (slot_stands block) slots ≡ false
past_reach block slots n is past =
    all_stand block slots ∙ ap (λ b. b && list_all (slot_stands block) (filter has_items slots)) (not_within (reach_of slots) n (length block) is past)
  where
    not_within : (a n m : ℕ) → n ≡ m → n < a → nat_le a m ≡ false
    not_within a n m is past = grind (arith, nat_tests)

pub within_reach : (block : List ℕ) (slots : List Slot) (n : ℕ) → n ≡ length block → reach_of slots ≤ n
    → list_all (slot_stands block) (filter has_items slots) ≡ list_all (slot_stands block) slots
within_reach block slots n is less =
    sym (all_stand block slots ∙ ap (λ b. b && list_all (slot_stands block) (filter has_items slots)) (within (reach_of slots) n (length block) is less))
  where
    within : (a n m : ℕ) → n ≡ m → a ≤ n → nat_le a m ≡ true
    within a n m is less = grind (arith, nat_tests)
