use Rattle.fit_csv.proofs.Common.{◌∙◌, length, sym, eqb-true}
use Rattle.fit_texts.proofs.CellFacts.{none-shown}
use Rattle.fit_csv.proofs.from.definition.dev_count_in.Goals as goal

pub returns-then-is_empty : goal.returns-then-is_empty
returns-then-is_empty c count small shows =
    none-shown c.args.cell.now count small shows (eqb-true (length c.args.cell.now) 0 (sym c.is_empty.ensures ∙ c.if-is_empty.true))
