use Rattle.fit_csv.proofs.Common.{on_ok_weaker, MatchResult-weaker, inl, inr, arith, ap, length, row_of}
use Rattle.fit_csv.proofs.NextSteps.{by-field-row, by-dev-row}
use Rattle.fit_csv.proofs.from.open_message.take_by.Goals as goal

pub returns-in-Some-clause-ok : goal.returns-in-Some-clause-ok
returns-in-Some-clause-ok c = on_ok_weaker c.take_field.result (λ step. inl step) c.take_field.ensures.ok

pub returns-in-Some-clause-err : goal.returns-in-Some-clause-err
returns-in-Some-clause-err c =
    MatchResult-weaker c.take_field.result c.take_field.ensures.err (λ x p. p)
    (λ misfit h. by-field-row c.args.before.now c.args.defined.now c.args.values.now (row_of c.args.cells.now) misfit
    (omega (arith, c.in-Some.ensures.lookup.3.0, c.len.ensures, ap length c.as_slice.ensures)) h)

pub returns-in-None-clause-ok : goal.returns-in-None-clause-ok
returns-in-None-clause-ok c = on_ok_weaker c.take_dev_field.result (λ step. inr step) c.take_dev_field.ensures.ok

pub returns-in-None-clause-err : goal.returns-in-None-clause-err
returns-in-None-clause-err c =
    MatchResult-weaker c.take_dev_field.result c.take_dev_field.ensures.err (λ x p. p)
    (λ misfit h. by-dev-row c.args.before.now c.args.defined.now c.args.values.now (row_of c.args.cells.now) misfit
    (omega (arith, c.in-None.ensures.lookup, c.len.ensures, ap length c.as_slice.ensures)) h)
