use Rattle.fit_csv.proofs.Common.{arith}
use Rattle.fit_csv.proofs.HeaderRows.{header-closest, sizes-fit}
use Rattle.fit_csv.proofs.from.header.closest_header.Goals as goal

pub returns-clause-range : goal.returns-clause-range
returns-clause-range c = record {
  form = record {
    size = sizes-fit c.sum_in.result c.size_in-size.result c.in_ok-rest.rest.items c.sum_in.ensures.size c.in_ok-rest.ensures.size;
    version = omega (arith, c.protocol_in.ensures.small);
  };
  size = c.size_in-size.type_inv;
  profile = c.number_in.type_inv;
  rest = c.in_ok-rest.ensures.small;
}

pub returns-clause-far : goal.returns-clause-far
returns-clause-far c other stands =
    let cells = c.args.cells.now in
    rw c.requires (header-closest cells.a.now cells.b.now cells.c.now cells.d.now cells.e.now cells.f.now _ c.size_in-size.ensures.every
    c.protocol_in.ensures.every c.number_in.ensures
    c.sum_in.ensures.every c.in_ok-rest.ensures.every other stands)
