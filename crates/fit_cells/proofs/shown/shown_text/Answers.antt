use Rattle.fit_cells.proofs.Common.{rules}
use Rattle.fit_cells.proofs.shown.shown_text.Goals as goal

pub returns-then-not-is_plain_by-clause-none : goal.returns-then-not-is_plain_by-clause-none
returns-then-not-is_plain_by-clause-none c = λ _. cc

pub returns-clause-text : goal.returns-clause-text
returns-clause-text c = search rules
