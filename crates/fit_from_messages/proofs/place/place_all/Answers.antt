use Rattle.std.proofs.Common.{◌≡◌, ◌+◌, ◌++◌, ◌∙◌, refl, ap, sym, subst, take, arith, true, flat_map}
use Rattle.std.specs.List.{All, list_all}
use Rattle.std.specs.Prelude.{sum_by, IfSome}
use Rattle.fit_base.specs.Fields.{items_bytes}
use Rattle.fit_from_messages.specs.Parts.{items_read, slot_stands}
use Rattle.fit_from_messages.specs.Slots.{IsSlot, slot_size}
use Rattle.fit_from_messages.proofs.FullSlots.{full_slots, past_reach, same_items, same_sum, within_reach}
use Rattle.fit_from_messages.proofs.place.place_all.Goals as goal

pub returns-then-reach-block-clause-none : goal.returns-then-reach-block-clause-none
returns-then-reach-block-clause-none c = λ none. past_reach c.args.block.now c.args.slots.now _ refl (omega (arith, c.reach.ensures, c.if-reach-block.true))

pub place_slots-requires-clause-slots : goal.place_slots-requires-clause-slots
place_slots-requires-clause-slots c = subst (All IsSlot) (sym c.full.ensures) (full_slots c.args.slots.now c.requires.slots)

pub place_slots-requires-clause-room : goal.place_slots-requires-clause-room
place_slots-requires-clause-room c =
    let same = ap (sum_by slot_size) c.full.ensures ∙ same_sum c.args.slots.now in omega (arith, same, c.requires.room)

pub returns-clause-stand : goal.returns-clause-stand
returns-clause-stand c =
    let same = ap (list_all (slot_stands c.args.block.now)) c.full.ensures
    ∙ within_reach c.args.block.now c.args.slots.now _ refl (omega (arith, c.reach.ensures, c.if-reach-block.false)) in
    subst (λ b. IfSome c.place_slots.result (λ end. b ≡ true)) same c.place_slots.ensures.stand

pub returns-clause-none : goal.returns-clause-none
returns-clause-none c = λ none.
    let same = ap (list_all (slot_stands c.args.block.now)) c.full.ensures
    ∙ within_reach c.args.block.now c.args.slots.now _ refl (omega (arith, c.reach.ensures, c.if-reach-block.false)) in
    sym same ∙ c.place_slots.ensures.none none

pub returns-clause-end : goal.returns-clause-end
returns-clause-end c =
    let same = ap (sum_by slot_size) c.full.ensures ∙ same_sum c.args.slots.now in
    subst (λ n. IfSome c.place_slots.result (λ end. end ≡ c.args.at + n)) same c.place_slots.ensures.end

pub returns-clause-text : goal.returns-clause-text
returns-clause-text c =
    let same = ap (flat_map (λ s. items_bytes c.args.order (items_read c.args.block.now s))) c.full.ensures
    ∙ same_items c.args.block.now c.args.order c.args.slots.now c.requires.slots in
    subst (λ xs. IfSome c.place_slots.result (λ end. take end c.place_slots.new.bytes ≡ take c.args.at c.args.bytes.now ++ xs)) same c.place_slots.ensures.text
