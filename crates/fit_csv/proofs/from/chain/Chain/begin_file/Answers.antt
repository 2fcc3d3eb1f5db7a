use Rattle.std.proofs.Common.{rules}
use Rattle.fit_csv.proofs.Common.{err_from_is_err_and, row_of}
use Rattle.fit_csv.proofs.ChainSteps.{begin-misfit}
use Rattle.fit_csv.proofs.from.chain.Chain.begin_file.Goals as goal

pub returns-in_err-header-clause-err : goal.returns-in_err-header-clause-err
returns-in_err-header-clause-err c =
    let p = err_from_is_err_and c.from_residual.result c.from_residual.ensures.1 in
    rw (p.1, p.2) (begin-misfit c.args.self.now (row_of c.args.cells.now) c.in_err-header.field-0.0 c.requires.none
    (c.has_room.ensures.0 c.if-not-has_room.false) c.in_err-header.ensures.err)

pub returns-clause-ok : goal.returns-clause-ok
returns-clause-ok c = search rules
