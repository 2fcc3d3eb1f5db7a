use Rattle.std.proofs.Common.{◌∙◌, ◌++◌, ap, sym}
use Rattle.std.proofs.lemmas.List.{append-nil}
use Rattle.std.specs.Global.{Global}
use Rattle.fit_base.proofs.ByteLists.{slice_is_bytes}
use Rattle.fit_record.specs.ReadMessages.{field_from}
use Rattle.fit_messages.specs.Blocks.{low, slot}
use Rattle.fit_messages.specs.inner.Sheets.{with_sheet}
use Rattle.fit_messages.proofs.ItemFacts.{slot_empty, slot_lone}
use Rattle.fit_messages.proofs.SheetFacts.{more_written, none_written}
use Rattle.fit_messages.proofs.items.add_read.Goals as goal

pub returns-then-width-size-clause-text : goal.returns-then-width-size-clause-text
returns-then-width-size-clause-text c =
    let old = with_sheet c.args.bytes.now.items c.args.sheet.now c.args.at in
    more_written c.make_room.new.bytes.items c.args.sheet.now c.write_low.new.sheet (low 8 c.bits_at.result) _ c.write_low.result c.write_low.ensures.text
    ∙ ap (λ b. b ++ low 8 c.bits_at.result) c.in_ok-at.ensures.text
    ∙ ap (λ n. old ++ low 8 n) c.bits_at.ensures
    ∙ ap (λ b. old ++ b) (slot_lone c.args.order c.args.code c.args.size c.args.field.now (slice_is_bytes c.args.field.now c.type_inv.field) c.requires.length
    (sym c.width.ensures ∙ c.if-width-size.true))

pub returns-then-size-eq0-clause-text : goal.returns-then-size-eq0-clause-text
returns-then-size-eq0-clause-text c =
    let old = with_sheet c.args.bytes.now.items c.args.sheet.now c.args.at in
    sym (ap (λ b. old ++ b) (slot_empty c.args.order c.args.code c.args.size c.args.field.now c.if-size-eq0.true) ∙ append-nil old)

pub returns-clause-text : goal.returns-clause-text
returns-clause-text c =
    none_written c.put_several.new.bytes.items c.args.sheet.now ∙ c.in_ok-put_several.ensures
    ∙ ap (λ b. b ++ slot (field_from {A = Global} c.args.order (c.args.code, c.args.size) c.args.field.now)) c.in_ok-put_sheet.ensures
