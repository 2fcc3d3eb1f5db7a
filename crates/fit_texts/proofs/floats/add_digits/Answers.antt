use Rattle.fit_texts.proofs.Common.{◌∙◌, ◌++◌, ◌*◌, ap, take}
use Rattle.std.specs.Prelude.{codes}
use Rattle.fit_base.specs.Numbers.{number}
use Rattle.fit_cells.specs.Cells.{hex_digits}
use Rattle.fit_texts.proofs.Sheets.{more_written}
use Rattle.fit_texts.proofs.floats.add_digits.Goals as goal

pub returns-clause-text : goal.returns-clause-text
returns-clause-text c =
    let at = c.in_ok-at.at in
    let sheet = c.args.sheet.now in
    let text = codes "0x" ++ hex_digits (2 * c.args.width) (number c.args.order c.args.bytes.now) in
    more_written c.make_room.new.text.items sheet c.write_float.new.row text at c.write_float.result
    (c.write_float.ensures.text ∙ ap (λ bits. take at sheet ++ (codes "0x" ++ hex_digits (2 * c.args.width) bits)) c.bits_at-bits.ensures)
    ∙ ap (λ t. t ++ text) c.in_ok-at.ensures.text
