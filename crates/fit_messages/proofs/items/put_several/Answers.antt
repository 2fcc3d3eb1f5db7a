use Rattle.std.proofs.Common.{◌∙◌, ◌++◌, ap, length, sym, replicate}
use Rattle.std.proofs.lemmas.Result.{on_ok_weaker}
use Rattle.std.specs.Global.{Global}
use Rattle.fit_base.proofs.ByteLists.{slice_is_bytes}
use Rattle.fit_record.specs.ReadMessages.{field_from}
use Rattle.fit_messages.proofs.ItemFacts.{slot_little, slot_turned}
use Rattle.fit_messages.specs.Blocks.{gap, slot}
use Rattle.fit_messages.proofs.items.put_several.Goals as goal

pub returns-in-Little : goal.returns-in-Little
returns-in-Little c = on_ok_weaker c.put_rounded.result (λ put.
    put ∙ ap (λ b. c.args.bytes.now.items ++ b)
    (slot_little (c.args.code, c.args.size) c.args.field.now (slice_is_bytes c.args.field.now c.type_inv.field) c.requires)
    ∙ ap (λ o. c.args.bytes.now.items ++ slot (field_from {A = Global} o (c.args.code, c.args.size) c.args.field.now)) (sym c.in-Little.is))
    c.put_rounded.ensures

pub returns-in_ok-put_turned-in-Big : goal.returns-in_ok-put_turned-in-Big
returns-in_ok-put_turned-in-Big c = on_ok_weaker c.put_gap.result (λ put.
    put ∙ ap (λ b. b ++ replicate (gap (length c.args.field.now)) 0) (c.in_ok-put_turned-in-Big.ensures)
    ∙ slot_turned c.args.order (c.args.code, c.args.size) c.width_of.result c.args.field.now c.args.bytes.now.items c.width_of.ensures c.requires)
    c.put_gap.ensures
