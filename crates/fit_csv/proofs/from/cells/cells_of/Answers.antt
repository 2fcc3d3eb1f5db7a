use Rattle.fit_csv.proofs.Common.{◌≡◌, length, arith, fields_of}
use Rattle.fit_csv.proofs.SevenCells.{seven-cells}
use Rattle.fit_csv.proofs.from.cells.cells_of.Goals as goal

pub returns-clause-some : goal.returns-clause-some
returns-clause-some c =
    let all : length (fields_of c.args.row.now) ≡ 7 = omega (arith, c.len.ensures, c.if-len-ne7.false) in
    seven-cells (fields_of c.args.row.now) _ _ _ _ _ _ _ all (c.cell_at.ensures (omega (arith, all))) (c.cell_at-2.ensures (omega (arith, all)))
    (c.cell_at-3.ensures (omega (arith, all)))
    (c.cell_at-4.ensures (omega (arith, all))) (c.cell_at-5.ensures (omega (arith, all))) (c.cell_at-6.ensures (omega (arith, all)))
    (c.cell_at-7.ensures (omega (arith, all)))
