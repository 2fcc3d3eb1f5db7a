use Rattle.fit_csv.proofs.Common.{◌∙◌, refl, sym, subst, end_row, IsEndRow, Row, DifferAt, row_of}
use Rattle.fit_csv.proofs.SevenCells.{same-cells}
use Rattle.fit_csv.proofs.NextSteps.{end-closest}
use Rattle.fit_csv.proofs.Closest.{closest}
use Rattle.fit_csv.proofs.from.header.file_end.Goals as goal

pub returns-in-None-clause-ok : goal.returns-in-None-clause-ok
returns-in-None-clause-ok c = sym (c.in-None.ensures.none refl) ∙ same-cells c.requires refl refl refl refl refl refl

pub returns-in-Some-clause-err : goal.returns-in-Some-clause-err
returns-in-Some-clause-err c =
    let cells = c.args.cells.now in
    closest IsEndRow (row_of c.args.cells.now) end_row c.in-Some.column refl
    (end-closest cells.kind.now cells.a.now cells.b.now cells.c.now cells.d.now cells.e.now cells.f.now)
    (subst (λ (r : Row). DifferAt c.in-Some.column r (row_of c.args.cells.now)) (same-cells c.requires refl refl refl refl refl refl) c.in-Some.ensures.some)
