use Rattle.fit_csv.proofs.Common.{refl, file_row, IsFileRow, DifferAt, row_of}
use Rattle.fit_csv.proofs.Closest.{closest}
use Rattle.fit_csv.proofs.from.header.file_header.Goals as goal

pub returns-in-Some-clause-err : goal.returns-in-Some-clause-err
returns-in-Some-clause-err c =
    let header = c.in_ok-header.header in
    let differs : DifferAt c.in-Some.column (file_row c.in_ok-header.header) (row_of c.args.cells.now) = rw c.in-Some.is at c.in_ok-difference.ensures.some in
    closest IsFileRow (row_of c.args.cells.now) (file_row header) c.in-Some.column (header, c.in_ok-header.ensures.range, refl) c.in_ok-header.ensures.far
    differs
