use Rattle.fit_encode.proofs.Common.{take, arith, sym, add-zero, append-nil, HasBytes, items_bytes, ◌++◌, ◌∙◌, ap, length, take_all, flat_map}
use Rattle.std.proofs.Common.{◌+◌}
use Rattle.fit_encode.proofs.OneOfAll.{each_at}
use Rattle.fit_encode.proofs.Places.{part_within, part_end, part_written}
use Rattle.fit_encode.proofs.place.place_lists.Goals as goal

pub place_items-at-requires-clause-room : goal.place_items-at-requires-clause-room
place_items-at-requires-clause-room g c =
    let room = part_within (items_bytes {A = g.row.A.Denot} c.args.order) c.args.lists.now c.loop-items.items-index c.items-item.result
    c.items-item.result c.args.at c.loop-items.at c.loop-items-test.true c.items-item.is c.loop-items.invariant.end in
    omega (arith, room, c.requires.room, c.loop-items.auto.bytes)

pub loop-items-preserved : goal.loop-items-preserved
loop-items-preserved g c =
    let placed = c.place_items-at.ensures in record {
      end = part_end (items_bytes {A = g.row.A.Denot} c.args.order) c.args.lists.now c.loop-items.items-index c.items-item.result c.items-item.result
          c.args.at c.loop-items.at c.place_items-at.result c.loop-items-test.true c.items-item.is c.loop-items.invariant.end placed.end;
      text = part_written (items_bytes {A = g.row.A.Denot} c.args.order) c.args.lists.now c.loop-items.items-index c.items-item.result
          c.items-item.result (take c.args.at c.args.bytes.now) (take c.loop-items.at c.loop-items.bytes) _ c.loop-items-test.true c.items-item.is
          c.loop-items.invariant.text placed.text;
    }

pub returns-clause-end : goal.returns-clause-end
returns-clause-end g c =
    c.loop-items.invariant.end
    ∙ ap (λ l. c.args.at + length (flat_map (items_bytes {A = g.row.A.Denot} c.args.order) l))
    (take_all c.loop-items.items-index c.args.lists.now c.loop-items-test.false)

pub returns-clause-text : goal.returns-clause-text
returns-clause-text g c =
    c.loop-items.invariant.text
    ∙ ap (λ l. take c.args.at c.args.bytes.now ++ flat_map (items_bytes {A = g.row.A.Denot} c.args.order) l)
    (take_all c.loop-items.items-index c.args.lists.now c.loop-items-test.false)

pub place_items-at-requires-clause-items : goal.place_items-at-requires-clause-items
place_items-at-requires-clause-items g c =
    each_at HasBytes c.args.lists.now c.loop-items.items-index c.items-item.result c.loop-items-test.true c.items-item.is c.requires.lists

pub loop-items-init : goal.loop-items-init
loop-items-init g c = record { end = sym (add-zero c.args.at); text = sym (append-nil (take c.args.at c.args.bytes.now)) }

pub returns-clause-size : goal.returns-clause-size
returns-clause-size g c = c.loop-items.auto.bytes
