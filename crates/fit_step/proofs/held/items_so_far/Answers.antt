use Rattle.fit_step.proofs.Common.{◌≡◌, ◌+◌, ◌-◌, ◌/◌, ◌∙◌, ap, arith, drop, min, item_width, items_so_far, div-le_self}
use Rattle.fit_record.proofs.Gathering.{sizes_more}
use Rattle.fit_step.proofs.KeptSizes.{items_next}
use Rattle.fit_step.proofs.held.items_so_far.Goals as goal

pub loop-place-preserved : goal.loop-place-preserved
loop-place-preserved c =
    let shapes = c.args.layout.now in
    let k = c.loop-place.place in
    let left = c.loop-place.left in
    let f = c.shape-code.result in
    let here = c.min-here.result in
    let least : here ≡ min left f.1 = c.min-here.ensures in
    let beyond : left - here ≡ left - f.1 = omega (arith, least) in
    let items : here / c.width_of.result ≡ min left f.1 / item_width f.0 f.1 =
    ap (λ w. here / w) c.width_of.ensures ∙ ap (λ n. n / item_width f.0 f.1) least in
    let kept = c.loop-place.invariant in
    record {
      told = omega (arith, kept.told, items_next shapes k f left c.shape-code.ensures, items, ap (items_so_far (drop (k + 1) shapes)) beyond);
      after = omega (arith, kept.after, least, sizes_more shapes k f c.shape-code.ensures);
      few = omega (arith, kept.few, least, div-le_self here c.width_of.result);
    }
