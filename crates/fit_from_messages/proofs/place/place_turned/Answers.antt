use Rattle.std.proofs.Common.{◌≡◌, ◌≤◌, ◌+◌, ◌-◌, ◌*◌, ◌<◌, ◌^◌, ◌∙◌, suc, ap, sym, subst, take, length, arith}
use Rattle.std.proofs.Math.Nat.{suc-mul}
use Rattle.fit_base.specs.Numbers.{IsBytes}
use Rattle.fit_base.proofs.ByteLists.{IsBytes-drop}
use Rattle.fit_from_messages.proofs.PlacedItems.{number_in_piece, turned_more}
use Rattle.fit_from_messages.proofs.place.place_turned.Goals as goal

pub place_big-end-requires-clause-bits : goal.place_big-end-requires-clause-bits
place_big-end-requires-clause-bits c =
    let more : c.args.count - c.loop.counter ≡ suc (c.args.count - (c.loop.counter + 1)) = omega (arith, c.loop-test.true) in
    let enough : c.args.width ≤ length c.loop.rest.now =
    omega (arith, c.loop.invariant.long, ap (λ k. k * c.args.width) more, suc-mul (c.args.count - (c.loop.counter + 1)) c.args.width) in
    subst (λ n. n < 256 ^ c.args.width) (sym c.bits_at-bits.ensures)
    (number_in_piece c.args.width c.loop.rest.now c.split_at.result.0.now c.loop.invariant.are enough c.split_at.ensures.front)

pub loop-preserved : goal.loop-preserved
loop-preserved c =
    let more : c.args.count - c.loop.counter ≡ suc (c.args.count - (c.loop.counter + 1)) = omega (arith, c.loop-test.true) in
    let times = ap (λ k. k * c.args.width) more ∙ suc-mul (c.args.count - (c.loop.counter + 1)) c.args.width in record {
      told = turned_more c.args.width (c.args.count - c.loop.counter) (c.args.count - (c.loop.counter + 1)) c.bits_at-bits.result c.loop.rest.now
          c.split_at.result.0.now c.split_at.result.1.now (take c.loop.end c.loop.bytes) _ _ more c.split_at.ensures.front c.split_at.ensures.back
          c.bits_at-bits.ensures c.place_big-end.ensures.text c.loop.invariant.told;
      end = omega (arith, c.place_big-end.ensures.end, c.loop.invariant.end, times);
      are = subst IsBytes (sym c.split_at.ensures.back) (IsBytes-drop c.args.width c.loop.rest.now c.loop.invariant.are);
      long = omega (arith, c.loop.invariant.long, times, c.split_at.ensures.back_len);
    }
