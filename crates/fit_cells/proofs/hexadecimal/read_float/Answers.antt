use Rattle.fit_cells.proofs.Common.{◌∙◌, ap, take_rest, read_hex}
use Rattle.fit_cells.proofs.ReadFacts.{float-length, float-read}
use Rattle.fit_cells.proofs.hexadecimal.read_float.Goals as goal

pub returns-then-text-width-clause-every : goal.returns-then-text-width-clause-every
returns-then-text-width-clause-every c bits below e = absurd (c.if-text-width.true (float-length c.args.text.now c.args.width bits e))

pub returns-clause-every : goal.returns-clause-every
returns-clause-every c bits below e = c.read_digits.ensures.value ∙ ap (read_hex 0) (take_rest c.args.text.now 2)
    ∙ float-read c.args.text.now c.args.width bits below e
