use Rattle.fit_texts.proofs.Common.{◌∙◌, ◌++◌, take, ap, arith, append_assoc, base_type, item_text}
use Rattle.std.proofs.lemmas.Result.{IfOk-from_err}
use Rattle.fit_base.proofs.ByteLists.{slice_is_bytes}
use Rattle.fit_base.specs.Numbers.{number}
use Rattle.fit_cells.specs.Steps.{bar}
use Rattle.fit_texts.proofs.ItemFacts.{lone_below}
use Rattle.fit_texts.proofs.Sheets.{more_written}
use Rattle.fit_texts.proofs.several.add_number.Goals as goal

pub write_formed-requires-clause-bits : goal.write_formed-requires-clause-bits
write_formed-requires-clause-bits c =
    lone_below c.args.order c.args.bytes.now c.args.form.width c.bits_at-bits.result (slice_is_bytes c.args.bytes.now c.type_inv.bytes)
    c.requires.length c.bits_at-bits.ensures

pub write_formed-requires-clause-room : goal.write_formed-requires-clause-room
write_formed-requires-clause-room c =
    omega (arith, c.told-sheet, c.in_ok-at.ensures.room, c.write_bar-at.ensures.size, c.write_bar-at.ensures.within)

pub returns-clause-place : goal.returns-clause-place
returns-clause-place c = omega (arith, c.in_ok-at.ensures.room, c.write_bar-at.ensures.within, c.write_formed.ensures.within)

pub returns-clause-text : goal.returns-clause-text
returns-clause-text c code info form =
    let item = item_text (base_type code).class code info c.args.form.width in
    let text = item (number c.args.order c.args.bytes.now) in
    let sheet = c.args.sheet.now in
    more_written c.make_room.new.text.items sheet c.write_formed.new.bytes (bar c.args.place ++ text) c.in_ok-at.at c.write_formed.result
    (c.write_formed.ensures.text code info form ∙ (λ i. c.write_bar-at.ensures.text i ++ item (c.bits_at-bits.ensures i))
    ∙ append_assoc (take c.in_ok-at.at sheet) (bar c.args.place) text)
    ∙ ap (λ t. t ++ (bar c.args.place ++ text)) c.in_ok-at.ensures.text

pub returns-in_err-at-clause-text : goal.returns-in_err-at-clause-text
returns-in_err-at-clause-text c code info form = IfOk-from_err c.from_residual.result _ c.from_residual.ensures.0
