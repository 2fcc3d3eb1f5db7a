-- How long blocks are in which all items are.
use Rattle.std.proofs.Common.{◌≡◌, ◌∙◌, ℕ, ◌<◌, ◌+◌, ◌≤◌, Bool, true, false, cond, List, [], ◌∷◌, length, sym, ap, arith}
use Rattle.std.proofs.lemmas.Bool.Decides.{nat_tests}
use Rattle.std.specs.List.{list_all}
use Rattle.std.specs.Prelude.{◌&&◌, Option, Some, None, max, nat_le, not}
use Rattle.fit_record.specs.Faults.{or_else}
use Rattle.fit_from_messages.specs.Alone.{why_no_lone_front, why_no_message_at}
use Rattle.fit_from_messages.specs.Parts.{slot_stands}
use Rattle.fit_from_messages.specs.Slots.{slot_size}
use Rattle.fit_from_messages.specs.declared.fault.BlockReason.{BlockReason}
use Rattle.fit_from_messages.specs.declared.fault.BlockReason.TheVariants.{Items}
use Rattle.fit_from_messages.specs.declared.slot.Slot.{Slot}
use Rattle.fit_writer.specs.inner.Found.{least_length}

both_within : (a b n : ℕ) → nat_le (max a b) n ≡ (nat_le a n && nat_le b n)
both_within a b n = grind (arith, nat_tests)

-- All items are in a block just where it is long enough.
pub all_stand : (block : List ℕ) (slots : List Slot) → list_all (slot_stands block) slots ≡ nat_le (least_length slots) (length block)
all_stand block [] = empty (length block)
  where
    empty : (n : ℕ) → true ≡ nat_le 0 n
    empty n = grind (arith, nat_tests)
all_stand block (s ∷ slots) =
    ap (λ b. slot_stands block s && b) (all_stand block slots)
    ∙ sym (both_within (s.place + slot_size s) (least_length slots) (length block))

pub items_stand : (block : List ℕ) (slots : List Slot) (least : ℕ) → least ≡ least_length slots → least ≤ length block
    → list_all (slot_stands block) slots ≡ true
items_stand block slots least is within = all_stand block slots ∙ enough (least_length slots) (length block) (omega (arith, is, within))
  where
    enough : (a n : ℕ) → a ≤ n → nat_le a n ≡ true
    enough a n within = grind (arith, nat_tests, within)

items_miss : (block : List ℕ) (slots : List Slot) (least : ℕ) → least ≡ least_length slots → length block < least
    → list_all (slot_stands block) slots ≡ false
items_miss block slots least is short = all_stand block slots ∙ few (least_length slots) (length block) (omega (arith, is, short))
  where
    few : (a n : ℕ) → n < a → nat_le a n ≡ false
    few a n short = grind (arith, nat_tests, short)

reason_is : (block : List ℕ) (slots : List Slot) (first : Option BlockReason) (b : Bool) → first ≡ why_no_lone_front block → first ≡ None
    → list_all (slot_stands block) slots ≡ b → why_no_message_at block slots ≡ cond (not b) (Some Items) None
reason_is block slots first b front none stand =
    ap (λ o. or_else o (cond (not (list_all (slot_stands block) slots)) (Some Items) None)) (sym front ∙ none)
    ∙ ap (λ c. cond (not c) (Some Items) None) stand

-- the reason why a block can't stand whose front stands
pub no_reason : (block : List ℕ) (slots : List Slot) (first : Option BlockReason) (least : ℕ) → first ≡ why_no_lone_front block → first ≡ None
    → least ≡ least_length slots → least ≤ length block → None ≡ why_no_message_at block slots
no_reason block slots first least front none is within =
    sym (reason_is block slots first true front none (items_stand block slots least is within))

pub items_reason : (block : List ℕ) (slots : List Slot) (first : Option BlockReason) (least : ℕ) → first ≡ why_no_lone_front block → first ≡ None
    → least ≡ least_length slots → length block < least → Some Items ≡ why_no_message_at block slots
items_reason block slots first least front none is short =
    sym (reason_is block slots first false front none (items_miss block slots least is short))
