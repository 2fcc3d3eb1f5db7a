use Rattle.fit_csv.proofs.Common.{subst, err_from_is_err_and, IsCellFault, IsRowOfThree, row_of}
use Rattle.fit_cells.specs.Rows.{Cell}
use Rattle.fit_csv.proofs.DefinitionRows.{field_def-misfit}
use Rattle.fit_csv.proofs.from.definition.field_def.Goals as goal

pub returns-in_err-number-clause-err : goal.returns-in_err-number-clause-err
returns-in_err-number-clause-err c =
    let p = err_from_is_err_and c.from_residual.result c.from_residual.ensures.1 in
    let here = subst (λ (kind : Cell). IsCellFault (IsRowOfThree kind) (row_of c.args.cells.now) c.in_err-number.field-0.0) c.requires
    c.in_err-number.ensures.err in
    rw (p.1, p.2) (field_def-misfit (row_of c.args.cells.now) c.in_err-number.field-0.0 here)
