use Rattle.fit_table.proofs.Common.{◌∙◌, ap, items_at}
use Rattle.fit_table.specs.inner.TableColumns.{degrees_of_first}
use Rattle.fit_table.proofs.TableColumnFacts.{degrees_none, degrees_of_other, first_in}
use Rattle.fit_table.proofs.columns.position_of.Goals as goal

pub returns-in_default : goal.returns-in_default
returns-in_default c = λ o bytes. degrees_none (first_in o c.args.fields.now bytes c.args.number) (c.in_default.ensures o bytes)

pub returns-then-spot : goal.returns-then-spot
returns-then-spot c = λ o bytes.
    let s = c.in-Some.spot in
    ap degrees_of_first (c.in-Some.ensures.finds o bytes) ∙ degrees_of_other s.field (items_at s o bytes) c.if-spot.true

pub returns : goal.returns
returns c = (c.in-Some.ensures, c.if-spot.false)
