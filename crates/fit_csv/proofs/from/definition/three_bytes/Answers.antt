use Rattle.fit_csv.proofs.Common.{◌∙◌, [], refl, row, IsRowOfThree, Row, DifferAt, row_of}
use Rattle.std.proofs.Common.{decimal}
use Rattle.fit_csv.proofs.Closest.{closest}
use Rattle.fit_csv.proofs.ClosestRows.{three-closest}
use Rattle.fit_csv.proofs.Common.{sym}
use Rattle.fit_csv.proofs.SevenCells.{same-cells}
use Rattle.fit_csv.proofs.from.definition.three_bytes.Goals as goal

pub returns-in-Some-clause-err : goal.returns-in-Some-clause-err
returns-in-Some-clause-err c =
    let cells = c.args.cells.now in
    let shown : Row = row c.args.cells.now.kind.now (decimal c.byte_in-a.result) (decimal c.byte_in-b.result) (decimal c.byte_in-c.result) [] [] [] in
    let ea = c.as_bytes.ensures.value ∙ c.format.ensures.text in
    let eb = c.as_bytes-2.ensures.value ∙ c.format-2.ensures.text in
    let ec = c.as_bytes-3.ensures.value ∙ c.format-3.ensures.text in
    let differs : DifferAt c.in-Some.column shown (row_of c.args.cells.now) = rw (← ea, ← eb, ← ec) c.in-Some.ensures.some in
    closest (IsRowOfThree c.args.cells.now.kind.now) (row_of c.args.cells.now) shown c.in-Some.column
    (c.byte_in-a.result, c.byte_in-b.result, c.byte_in-c.result, c.byte_in-a.type_inv, c.byte_in-b.type_inv, c.byte_in-c.type_inv, refl)
    (three-closest cells.kind.now cells.a.now cells.b.now cells.c.now cells.d.now cells.e.now cells.f.now c.byte_in-a.result c.byte_in-b.result
    c.byte_in-c.result
    c.byte_in-a.ensures c.byte_in-b.ensures c.byte_in-c.ensures)
    differs

pub returns-in-None-clause-ok : goal.returns-in-None-clause-ok
returns-in-None-clause-ok c =
    sym (c.in-None.ensures.none refl)
    ∙ same-cells refl (c.as_bytes.ensures.value ∙ c.format.ensures.text) (c.as_bytes-2.ensures.value ∙ c.format-2.ensures.text)
    (c.as_bytes-3.ensures.value ∙ c.format-3.ensures.text) refl refl refl
