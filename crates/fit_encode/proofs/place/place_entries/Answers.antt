use Rattle.fit_encode.proofs.Common.{take, arith, ◌++◌, ◌∙◌, ap, length, take_all, flat_map}
use Rattle.std.proofs.Common.{◌+◌}
use Rattle.fit_encode.proofs.Places.{part_within, part_end, part_written}
use Rattle.fit_encode.proofs.place.place_entries.Goals as goal

pub place_bytes-at-requires : goal.place_bytes-at-requires
place_bytes-at-requires g c =
    let x = c.f-item.result in
    let room = part_within g.E.Entry.spelled c.args.fields.now c.loop-f.f-index x x c.args.at c.loop-f.at c.loop-f-test.true c.f-item.is
    c.loop-f.invariant.end in
    omega (arith, room, ap length c.three_bytes.ensures, c.requires, c.loop-f.auto.bytes)

pub loop-f-preserved : goal.loop-f-preserved
loop-f-preserved g c =
    let placed = c.place_bytes-at.ensures in
    let x = c.f-item.result in
    let written = take c.loop-f.at c.loop-f.bytes in record {
      end = part_end g.E.Entry.spelled c.args.fields.now c.loop-f.f-index x x c.args.at c.loop-f.at c.place_bytes-at.result c.loop-f-test.true
          c.f-item.is c.loop-f.invariant.end (placed.end ∙ ap (λ b. c.loop-f.at + length b) c.three_bytes.ensures);
      text = part_written g.E.Entry.spelled c.args.fields.now c.loop-f.f-index x x (take c.args.at c.args.bytes.now) written _ c.loop-f-test.true
          c.f-item.is c.loop-f.invariant.text (placed.text ∙ ap (λ b. written ++ b) c.three_bytes.ensures);
    }

pub returns-clause-end : goal.returns-clause-end
returns-clause-end g c =
    c.loop-f.invariant.end
    ∙ ap (λ l. c.args.at + length (flat_map g.E.Entry.spelled l)) (take_all c.loop-f.f-index c.args.fields.now c.loop-f-test.false)

pub returns-clause-text : goal.returns-clause-text
returns-clause-text g c =
    c.loop-f.invariant.text
    ∙ ap (λ l. take c.args.at c.args.bytes.now ++ flat_map g.E.Entry.spelled l)
    (take_all c.loop-f.f-index c.args.fields.now c.loop-f-test.false)
