use Rattle.fit_csv.proofs.Common.{◌∙◌, refl, IsHeadRow, head_row, DifferAt, row_of}
use Rattle.fit_csv.proofs.Closest.{closest}
use Rattle.fit_csv.proofs.Common.{sym}
use Rattle.fit_csv.proofs.SevenCells.{same-cells}
use Rattle.fit_csv.proofs.from.definition.definition_head.Goals as goal

pub returns-in-Some-clause-err : goal.returns-in-Some-clause-err
returns-in-Some-clause-err c =
    let cells = c.args.cells.now in
    let head = c.closest_head-head.result in
    let ea = c.as_bytes.ensures.value ∙ c.format.ensures.text in
    let eb = c.as_bytes-2.ensures.value ∙ c.format-2.ensures.text in
    let ec = c.as_bytes-3.ensures.value ∙ c.order_word.ensures in
    let ed = c.as_bytes-4.ensures.value ∙ c.format-3.ensures.text in
    let ee = c.as_bytes-5.ensures.value ∙ c.format-4.ensures.text in
    let differs : DifferAt c.in-Some.column (head_row c.closest_head-head.result) (row_of c.args.cells.now) =
    rw (← c.requires, ← ea, ← eb, ← ec, ← ed, ← ee, ← c.optional_number.ensures) c.in-Some.ensures.some in
    closest IsHeadRow (row_of c.args.cells.now) (head_row c.closest_head-head.result) c.in-Some.column
    (c.closest_head-head.result, c.closest_head-head.ensures.range, refl) c.closest_head-head.ensures.far differs

pub returns-in-None-clause-ok : goal.returns-in-None-clause-ok
returns-in-None-clause-ok c =
    sym (c.in-None.ensures.none refl)
    ∙ same-cells c.requires (c.as_bytes.ensures.value ∙ c.format.ensures.text) (c.as_bytes-2.ensures.value ∙ c.format-2.ensures.text)
    (c.as_bytes-3.ensures.value ∙ c.order_word.ensures) (c.as_bytes-4.ensures.value ∙ c.format-3.ensures.text)
    (c.as_bytes-5.ensures.value ∙ c.format-4.ensures.text) c.optional_number.ensures

pub returns-in-None-clause-range : goal.returns-in-None-clause-range
returns-in-None-clause-range c = c.closest_head-head.ensures.range
