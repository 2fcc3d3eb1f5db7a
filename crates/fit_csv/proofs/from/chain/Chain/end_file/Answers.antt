use Rattle.fit_csv.proofs.Common.{[], ◌∷◌, ap, err_from_is_err_and, row_of}
use Rattle.fit_cells.specs.Rows.{Cell}
use Rattle.fit_csv.proofs.ChainSteps.{end-misfit}
use Rattle.fit_csv.proofs.from.chain.Chain.end_file.Goals as goal

pub returns-in_err-file_end-clause-err : goal.returns-in_err-file_end-clause-err
returns-in_err-file_end-clause-err c =
    let p = err_from_is_err_and c.from_residual.result c.from_residual.ensures.1 in
    let (f, some, none, kind) = c.requires in
    rw (p.1, p.2) (end-misfit c.args.self.now f (row_of c.args.cells.now) c.in_err-file_end.field-0.0 some none (ap (λ (k : Cell). k ∷ []) kind)
    c.in_err-file_end.ensures.err)
