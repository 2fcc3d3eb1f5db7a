use Rattle.fit_sum.proofs.Common.{get_or, sym, ◌∙◌, ap, bit_xor, shifts}
use Rattle.fit_sum.proofs.PiecesOfLists.{run-none, run-byte}
use Rattle.fit_sum.proofs.slices.add_each.Goals as goal

pub loop-byte-init : goal.loop-byte-init
loop-byte-init c = sym (run-none _)

pub loop-byte-preserved : goal.loop-byte-preserved
loop-byte-preserved c =
    c.add_one-sum.ensures
    ∙ ap (λ t. shifts 8 (bit_xor t (get_or c.args.bytes.now c.loop-byte.byte-index 0))) c.loop-byte.invariant
    ∙ sym (run-byte c.args.register c.args.bytes.now c.loop-byte.byte-index c.loop-byte-test.true)
