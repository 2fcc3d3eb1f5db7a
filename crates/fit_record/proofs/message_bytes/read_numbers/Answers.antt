use Rattle.fit_record.proofs.Common.{◌≡◌, ◌/◌, ◌-◌, ◌+◌, ◌++◌, ◌∷◌, [], length, take, ap, ◌∙◌, subst, arith, IfOk, number, numbers_of}
use Rattle.fit_record.proofs.Gathering.{one_less, numbers_more, left_more, some_left, all_numbers, all_read, one_wide}
use Rattle.fit_record.proofs.message_bytes.read_numbers.Goals as goal

pub returns-then-width-eq1 : goal.returns-then-width-eq1
returns-then-width-eq1 g c = subst (λ l. IfOk c.from_bytes.result (λ bits. bits ≡ l)) (one_wide c.args.order c.args.width c.args.bytes.now c.if-width-eq1.true)
    c.from_bytes.ensures.same

pub loop-init : goal.loop-init
loop-init g c = record {
  told =
      let count = length c.args.bytes.now / c.args.width in
      let all : count - 0 ≡ count = omega arith in
      ap (λ b. b ++ numbers_of c.args.order c.args.width (count - 0) c.args.bytes.now) c.in_ok-bits.ensures.none
      ∙ ap (λ k. numbers_of c.args.order c.args.width k c.args.bytes.now) all;
  long = all_numbers c.args.width c.args.bytes.now c.requires.whole;
}

pub split_at-requires : goal.split_at-requires
split_at-requires g c = some_left c.args.width _ _ c.loop.rest.now (one_less (length c.args.bytes.now / c.args.width) c.loop.counter c.loop-test.true)
    c.loop.invariant.long

pub loop-preserved : goal.loop-preserved
loop-preserved g c =
    let o = c.args.order in
    let w = c.args.width in
    let count = length c.args.bytes.now / w in
    let bits = c.loop.bits in
    let rest = c.loop.rest.now in
    let m = count - (c.loop.counter + 1) in
    let more = one_less count c.loop.counter c.loop-test.true in
    let value = c.bits_at.ensures ∙ ap (number o) c.split_at.ensures.front in
    record {
      told = ap (λ b. b ++ numbers_of o w m c.split_at.result.1.now) (c.in_ok-push.ensures.ok ∙ ap (λ v. bits ++ v ∷ []) value)
          ∙ ap (λ r. (bits ++ number o (take w rest) ∷ []) ++ numbers_of o w m r) c.split_at.ensures.back
          ∙ numbers_more o w (count - c.loop.counter) m rest bits (numbers_of o w count c.args.bytes.now) more c.loop.invariant.told;
      long = ap length c.split_at.ensures.back ∙ left_more w (count - c.loop.counter) m rest more c.loop.invariant.long;
    }

pub returns : goal.returns
returns g c = all_read c.args.order c.args.width c.loop.counter _ c.loop.bits c.loop.rest.now _ c.loop-test.false c.loop.invariant.told
