use Rattle.std.proofs.Common.{◌≡◌, ◌/◌, ◌-◌, ◌+◌, ◌++◌, length, sym, ap, ◌∙◌, arith}
use Rattle.std.proofs.lemmas.List.{append-nil}
use Rattle.std.specs.Prelude.{flat_map}
use Rattle.fit_base.specs.Numbers.{number}
use Rattle.fit_record.specs.ReadMessages.{numbers_of}
use Rattle.fit_record.proofs.Gathering.{one_less, left_more, some_left, all_numbers}
use Rattle.fit_messages.proofs.ItemFacts.{numbers_more}
use Rattle.fit_messages.specs.Blocks.{low}
use Rattle.fit_messages.proofs.items.put_turned.Goals as goal

pub loop-init : goal.loop-init
loop-init c = record {
  told =
      let count = length c.args.field.now / c.args.width in
      let all : count - 0 ≡ count = omega arith in
      ap (λ k. c.args.bytes.now.items ++ flat_map (low c.args.width) (numbers_of c.args.order c.args.width k c.args.field.now)) all;
  long = all_numbers c.args.width c.args.field.now c.requires.whole;
}

pub split_at-requires : goal.split_at-requires
split_at-requires c =
    some_left c.args.width _ _ c.loop.rest.now (one_less (length c.args.field.now / c.args.width) c.loop.counter c.loop-test.true)
    c.loop.invariant.long

pub loop-preserved : goal.loop-preserved
loop-preserved c =
    let o = c.args.order in
    let w = c.args.width in
    let count = length c.args.field.now / w in
    let rest = c.loop.rest.now in
    let m = count - (c.loop.counter + 1) in
    let more = one_less count c.loop.counter c.loop-test.true in
    let now = c.put_number.new.bytes.items in
    record {
      told = ap (λ r. now ++ flat_map (low w) (numbers_of o w m r)) c.split_at.ensures.back
          ∙ numbers_more o w (count - c.loop.counter) m rest c.loop.bytes.items now _ c.bits_at.result more
          (c.bits_at.ensures ∙ ap (number o) c.split_at.ensures.front) c.in_ok-put_number.ensures c.loop.invariant.told;
      long = ap length c.split_at.ensures.back ∙ left_more w (count - c.loop.counter) m rest more c.loop.invariant.long;
    }

pub returns : goal.returns
returns c =
    let o = c.args.order in
    let w = c.args.width in
    let count = length c.args.field.now / w in
    let none : count - c.loop.counter ≡ 0 = omega (arith, c.loop-test.false) in
    sym (ap (λ n. c.loop.bytes.items ++ flat_map (low w) (numbers_of o w n c.loop.rest.now)) none ∙ append-nil c.loop.bytes.items) ∙ c.loop.invariant.told
