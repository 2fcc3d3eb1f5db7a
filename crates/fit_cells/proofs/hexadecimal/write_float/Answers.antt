use Rattle.fit_cells.proofs.Common.{◌∙◌, ◌++◌, arith, ap, take, hex_digits}
use Rattle.fit_cells.proofs.PairFacts.{byte_written, bytes_written, same_after}
use Rattle.fit_cells.proofs.hexadecimal.write_float.Goals as goal

pub loop-written-preserved : goal.loop-written-preserved
loop-written-preserved c =
    let before = take c.loop-written.end c.loop-written.row in
    let digits = c.pair.ensures ∙ ap (hex_digits 2) c.byte_at.ensures in
    record {
      size = c.write_two-end.ensures.size ∙ c.loop-written.invariant.size;
      end = omega (arith, c.write_two-end.ensures.end, c.loop-written.invariant.end);
      text = byte_written c.args.bits c.args.width c.loop-written.written before _ _ c.loop-written-test.true
          (c.write_two-end.ensures.text ∙ ap (λ ds. before ++ ds) digits) c.loop-written.invariant.text;
      after = same_after c.loop-written.end c.write_two-end.result c.args.row.now c.loop-written.row c.write_two-end.new.row
          (omega (arith, c.write_two-end.ensures.end)) c.write_two-end.ensures.after c.loop-written.invariant.after;
    }

pub returns-clause-text : goal.returns-clause-text
returns-clause-text c =
    bytes_written c.args.bits c.args.width c.loop-written.written (take c.loop-written.end c.loop-written.row) _ c.loop-written-test.false
    c.loop-written.invariant.text
