use Rattle.fit_csv.proofs.Common.{err_from_is_err_and, row_of}
use Rattle.fit_csv.proofs.DefinitionRows.{field_def-step}
use Rattle.fit_csv.proofs.from.open_definition.take_field.Goals as goal

pub returns-in_err-field-clause-err : goal.returns-in_err-field-clause-err
returns-in_err-field-clause-err c =
    let p = err_from_is_err_and c.from_residual.result c.from_residual.ensures.1 in
    rw (p.1, p.2) (field_def-step c.args.definition.now (row_of c.args.cells.now) c.in_err-field.field-0.0 c.requires c.in_err-field.ensures.err)
