use Rattle.std.proofs.Common.{arith, ◌∙◌, ◌++◌, ap, sym, take}
use Rattle.fit_base.specs.Fields.{items_bytes}
use Rattle.fit_base.proofs.ByteLists.{slice_is_bytes}
use Rattle.fit_from_messages.specs.Parts.{items_read}
use Rattle.fit_from_messages.proofs.PlacedItems.{little_items}
use Rattle.fit_from_messages.proofs.place.place_slot.Goals as goal

pub returns-in-Little-clause-text : goal.returns-in-Little-clause-text
returns-in-Little-clause-text c =
    c.place_first.ensures.text
    ∙ ap (λ xs. take c.args.at c.args.bytes.now ++ xs) (little_items c.args.block.now c.args.slot c.size.result c.split_at.result.1.now
    (slice_is_bytes c.args.block.now c.type_inv.block) (grind (arith, c.requires.within)) c.size.ensures c.split_at.ensures.back)
    ∙ ap (λ order. take c.args.at c.args.bytes.now ++ items_bytes order (items_read c.args.block.now c.args.slot)) (sym c.in-Little.is)
