use Rattle.std.proofs.Common.{◌+◌, ◌-◌, arith, get_or, length}
use Rattle.fit_csv_text.proofs.ShortCells.{comma-ends, line-feed-ends, return-ends, short-cell}
use Rattle.fit_csv_text.proofs.loose.cells.short_cell.Goals.{then-end-eq44-via-then-end-eq44, then-end-eq44-via-else-end-eq44+then-end-eq10}
use Rattle.fit_csv_text.proofs.loose.cells.short_cell.Goals as goal

pub returns-then-end-eq44 : goal.returns-then-end-eq44
returns-then-end-eq44 c =
    let text = c.args.text.now in
    let shown = c.cell_length-shown.result in
    let long = c.if-text-lt-SHORT_SIZE.false in
    let short = c.cell_length-shown.ensures.within in
    short-cell text shown (get_or text (shown + 2) 0) (shown + 3) (length text - 1) (omega (arith, long)) short (omega (arith, long)) (omega (arith, short))
    c.if-text-ne34.false c.cell_length-shown.ensures.bare c.if-text-shown-ne34.false
    (elim c.then-end-eq44.branch [
      | then-end-eq44-via-then-end-eq44 w ↦ comma-ends text (shown + 2) (shown + 3) (omega (arith, long, short)) w.if-end-eq44.true (omega arith)
      | then-end-eq44-via-else-end-eq44+then-end-eq10 w ↦
          line-feed-ends text (shown + 2) (shown + 3) (omega (arith, long, short)) w.if-end-eq10.true (omega arith)
    ])

pub returns-then-text-shown-eq10 : goal.returns-then-text-shown-eq10
returns-then-text-shown-eq10 c =
    let text = c.args.text.now in
    let shown = c.cell_length-shown.result in
    let long = c.if-text-lt-SHORT_SIZE.false in
    let short = c.cell_length-shown.ensures.within in
    short-cell text shown 10 (shown + 4) (length text - 1) (omega (arith, long)) short (omega (arith, long)) (omega (arith, short))
    c.if-text-ne34.false c.cell_length-shown.ensures.bare c.if-text-shown-ne34.false
    (return-ends text (shown + 2) (shown + 3) (shown + 4) (omega (arith, long, short)) (omega arith) c.if-end-eq13.true c.if-text-shown-eq10.true (omega arith))
