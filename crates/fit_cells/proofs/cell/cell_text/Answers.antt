use Rattle.fit_cells.proofs.Common.{sym, subst, option_map, IsUtf8, meaning, rules}
use Rattle.fit_cells.proofs.TextFacts.{utf8-cell}
use Rattle.fit_cells.proofs.cell.cell_text.Goals as goal

pub unreachable-requires : goal.unreachable-requires
unreachable-requires c =
    let items = rw c.new-text.ensures.items at c.in_ok-put_cell.ensures.ok in
    cc (c.in-Err.ensures.succeeds (subst IsUtf8 (sym items) (utf8-cell c.args.code.0 (option_map meaning c.args.info) c.args.items.now)))

pub returns : goal.returns
returns c = search rules
