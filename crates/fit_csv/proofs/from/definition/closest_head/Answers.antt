use Rattle.fit_csv.proofs.ClosestRows.{head-closest}
use Rattle.fit_csv.proofs.from.definition.closest_head.Goals as goal

pub returns-clause-far : goal.returns-clause-far
returns-clause-far c other stands =
    let cells = c.args.cells.now in
    rw c.requires (head-closest cells.a.now cells.b.now cells.c.now cells.d.now cells.e.now cells.f.now _ c.local_in.ensures.number c.byte_in.ensures
    c.order_in.ensures c.number_in.ensures c.byte_in-2.ensures
    c.dev_count_in.ensures other stands)
