use Rattle.fit_cells.proofs.Common.{◌∙◌, sym, rules}
use Rattle.fit_cells.proofs.PlainFacts.{plain_cell}
use Rattle.fit_cells.proofs.cell.is_never_quoted.Goals as goal

pub returns-clause-yes : goal.returns-clause-yes
returns-clause-yes c is info items = plain_cell c.args.code.0 info items (λ e. cc (sym is ∙ rw (c.class.ensures, e) at c.ne.ensures))

pub returns-clause-no : goal.returns-clause-no
returns-clause-no c = search rules
