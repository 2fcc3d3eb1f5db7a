use Rattle.fit_csv.proofs.Common.{err_from_is_err_and, row_of}
use Rattle.fit_csv.proofs.ValueSteps.{field-misfit}
use Rattle.fit_csv.proofs.from.open_message.take_field.Goals as goal

pub returns-in_err-items-clause-err : goal.returns-in_err-items-clause-err
returns-in_err-items-clause-err c =
    let p = err_from_is_err_and c.from_residual.result c.from_residual.ensures.1 in
    rw (p.1, p.2) (field-misfit c.args.defined.now c.args.values.now c.args.field (row_of c.args.cells.now) c.in_err-items.field-0.0 c.requires
    c.in_err-items.ensures.err)
