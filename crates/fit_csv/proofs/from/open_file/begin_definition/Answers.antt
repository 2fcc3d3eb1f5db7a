use Rattle.fit_csv.proofs.Common.{[], ◌∷◌, ap, err_from_is_err_and, row_of}
use Rattle.fit_cells.specs.Rows.{Cell}
use Rattle.fit_csv.proofs.PartSteps.{head-misfit}
use Rattle.fit_csv.proofs.from.open_file.begin_definition.Goals as goal

pub returns-in_err-head-clause-err : goal.returns-in_err-head-clause-err
returns-in_err-head-clause-err c =
    let p = err_from_is_err_and c.from_residual.result c.from_residual.ensures.1 in
    rw (p.1, p.2) (head-misfit c.args.before.now (row_of c.args.cells.now) c.in_err-head.field-0.0 (ap (λ (kind : Cell). kind ∷ []) c.requires)
    c.in_err-head.ensures.err)
