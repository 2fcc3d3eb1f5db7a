use Rattle.fit_encode.proofs.Common.{ap, flat_map, take_all, items_bytes, HasBytes}
use Rattle.fit_encode.proofs.OneOfAll.{each_at}
use Rattle.fit_encode.proofs.Sendings.{Spells-none, Spells-as, Spells-next, Breaks-next, Sends-err}
use Rattle.fit_encode.proofs.message.spell_lists.Goals as goal

pub returns-in_err-spell_items : goal.returns-in_err-spell_items
returns-in_err-spell_items g c =
    Sends-err _ _ _ _ _ c.from_residual.result c.from_residual.ensures.1 (
    Breaks-next (items_bytes {A = g.row.A.Denot} c.args.order) c.args.lists.now c.loop-items.items-index c.items-item.result _ c.loop-items-test.true
    c.items-item.is c.loop-items.invariant c.in_err-spell_items.ensures)

pub loop-items-preserved : goal.loop-items-preserved
loop-items-preserved g c =
    Spells-next (items_bytes {A = g.row.A.Denot} c.args.order) c.args.lists.now c.loop-items.items-index c.items-item.result _ c.loop-items-test.true
    c.items-item.is c.loop-items.invariant
    c.in_ok-spell_items.ensures

pub loop-items-init : goal.loop-items-init
loop-items-init g c = Spells-none _ _

pub spell_items-requires : goal.spell_items-requires
spell_items-requires g c = each_at HasBytes c.args.lists.now c.loop-items.items-index c.items-item.result c.loop-items-test.true c.items-item.is c.requires

pub returns : goal.returns
returns g c =
    let all = take_all c.loop-items.items-index c.args.lists.now c.loop-items-test.false in
    Spells-as (ap (flat_map (items_bytes {A = g.row.A.Denot} c.args.order)) all) c.loop-items.invariant
