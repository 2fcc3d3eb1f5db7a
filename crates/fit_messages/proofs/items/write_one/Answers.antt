use Rattle.std.proofs.Common.{◌∙◌, ◌++◌, ap, take}
use Rattle.fit_base.proofs.ByteLists.{slice_is_bytes}
use Rattle.fit_messages.proofs.ItemFacts.{slot_first}
use Rattle.fit_messages.proofs.items.write_one.Goals as goal

pub returns-clause-text : goal.returns-clause-text
returns-clause-text c =
    let bytes = c.args.bytes.now in
    c.write_low.ensures.text
    ∙ ap (λ b. take c.args.at c.args.sheet.now ++ b)
    (slot_first c.args.order c.args.code c.args.width bytes c.split_at.result.0.now c.first_number.result (slice_is_bytes bytes c.type_inv.bytes)
    c.requires.length c.requires.width c.split_at.ensures.front c.first_number.ensures)
