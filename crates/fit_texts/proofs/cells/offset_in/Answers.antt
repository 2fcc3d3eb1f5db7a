use Rattle.fit_texts.proofs.Common.{◌∙◌, length, sym, eqb-true}
use Rattle.fit_texts.proofs.CellFacts.{no-offset}
use Rattle.fit_texts.proofs.cells.offset_in.Goals as goal

pub returns-then-is_empty-clause-every : goal.returns-then-is_empty-clause-every
returns-then-is_empty-clause-every c offset fits shows =
    no-offset c.args.cell.now c.args.local offset fits shows (eqb-true (length c.args.cell.now) 0 (sym c.is_empty.ensures ∙ c.if-is_empty.true))
