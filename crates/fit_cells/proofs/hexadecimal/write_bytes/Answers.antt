use Rattle.fit_cells.proofs.Common.{◌∙◌, arith}
use Rattle.std.proofs.lemmas.Grind.{common_steps}
use Rattle.fit_cells.proofs.PairFacts.{same_after}
use Rattle.fit_cells.proofs.hexadecimal.write_bytes.Goals as goal

pub loop-byte-preserved : goal.loop-byte-preserved
loop-byte-preserved c = record {
  size = c.write_two-end.ensures.size ∙ c.loop-byte.invariant.size;
  end = omega (arith, c.write_two-end.ensures.end, c.loop-byte.invariant.end);
  text = grind (arith, common_steps);
  after = same_after c.loop-byte.end c.write_two-end.result c.args.row.now c.loop-byte.row c.write_two-end.new.row
      (omega (arith, c.write_two-end.ensures.end)) c.write_two-end.ensures.after c.loop-byte.invariant.after;
}
