use Rattle.fit_encode.proofs.Common.{take, refl, arith, number_bytes, length-number_bytes, get_or, ◌++◌, ◌∙◌, ap, length, take_all, flat_map}
use Rattle.std.proofs.Common.{◌+◌}
use Rattle.fit_encode.proofs.Places.{part_within, part_end, part_written}
use Rattle.fit_encode.proofs.place.place_numbers.Goals as goal

pub place_number-at-requires-clause-room : goal.place_number-at-requires-clause-room
place_number-at-requires-clause-room c =
    let room = part_within (number_bytes c.args.order c.args.width) c.args.numbers.now c.loop-bits.bits-index 0 _ c.args.at c.loop-bits.at
    c.loop-bits-test.true refl c.loop-bits.invariant.end in
    omega (arith, room, c.requires.room, c.loop-bits.auto.bytes)

pub loop-bits-preserved : goal.loop-bits-preserved
loop-bits-preserved c =
    let placed = c.place_number-at.ensures in
    let long = length-number_bytes c.args.order c.args.width (get_or c.args.numbers.now c.loop-bits.bits-index 0) in record {
      end = part_end (number_bytes c.args.order c.args.width) c.args.numbers.now c.loop-bits.bits-index 0 _ c.args.at c.loop-bits.at
          c.place_number-at.result c.loop-bits-test.true refl c.loop-bits.invariant.end
          (omega (arith, placed.end, long));
      text = part_written (number_bytes c.args.order c.args.width) c.args.numbers.now c.loop-bits.bits-index 0 _ (take c.args.at c.args.bytes.now)
          (take c.loop-bits.at c.loop-bits.bytes) _ c.loop-bits-test.true refl
          c.loop-bits.invariant.text placed.text;
    }

pub returns-clause-end : goal.returns-clause-end
returns-clause-end c =
    c.loop-bits.invariant.end
    ∙ ap (λ l. c.args.at + length (flat_map (number_bytes c.args.order c.args.width) l))
    (take_all c.loop-bits.bits-index c.args.numbers.now c.loop-bits-test.false)

pub returns-clause-text : goal.returns-clause-text
returns-clause-text c =
    c.loop-bits.invariant.text
    ∙ ap (λ l. take c.args.at c.args.bytes.now ++ flat_map (number_bytes c.args.order c.args.width) l)
    (take_all c.loop-bits.bits-index c.args.numbers.now c.loop-bits-test.false)
