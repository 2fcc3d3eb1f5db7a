use Rattle.fit_csv.proofs.Common.{on_ok_weaker, MatchResult-weaker, inl, inr, arith, row_of}
use Rattle.fit_csv.proofs.NextSteps.{by-field, by-dev-field}
use Rattle.fit_csv.proofs.from.open_definition.take_definition_row.Goals as goal

pub returns-then-len-definition-clause-ok : goal.returns-then-len-definition-clause-ok
returns-then-len-definition-clause-ok c = on_ok_weaker c.take_field.result (λ step. inl step) c.take_field.ensures.ok

pub returns-then-len-definition-clause-err : goal.returns-then-len-definition-clause-err
returns-then-len-definition-clause-err c =
    MatchResult-weaker c.take_field.result c.take_field.ensures.err (λ x p. p)
    (λ misfit h. by-field c.args.definition.now (row_of c.args.cells.now) misfit (omega (arith, c.len.ensures, c.if-len-definition.true)) h)

pub returns-else-len-definition-clause-ok : goal.returns-else-len-definition-clause-ok
returns-else-len-definition-clause-ok c = on_ok_weaker c.take_dev_field.result (λ step. inr step) c.take_dev_field.ensures.ok

pub returns-else-len-definition-clause-err : goal.returns-else-len-definition-clause-err
returns-else-len-definition-clause-err c =
    MatchResult-weaker c.take_dev_field.result c.take_dev_field.ensures.err (λ x p. p)
    (λ misfit h. by-dev-field c.args.definition.now (row_of c.args.cells.now) misfit (omega (arith, c.len.ensures, c.if-len-definition.false)) h)
