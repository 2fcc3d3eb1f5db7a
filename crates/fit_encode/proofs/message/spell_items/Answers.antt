use Rattle.fit_encode.proofs.Common.{refl, ap, ◌∙◌, flat_map, take_all, number_bytes}
use Rattle.fit_encode.proofs.Sendings.{Spells-none, Spells-as, Spells-next, Breaks-next, Breaks-as, Sends-err}
use Rattle.fit_encode.proofs.message.spell_items.Goals as goal

pub returns-in_err-number : goal.returns-in_err-number
returns-in_err-number g c =
    let f = number_bytes c.args.order c.args.items.now.width in
    let bits = c.as_slice-bits-items in
    Sends-err _ _ _ _ _ c.from_residual.result c.from_residual.ensures.1 (
    Breaks-as (ap (flat_map f) bits.ensures) (Breaks-next f bits.result.now c.loop-bits.bits-index 0 _ c.loop-bits-test.true refl c.loop-bits.invariant
    c.in_err-number.ensures))

pub loop-bits-preserved : goal.loop-bits-preserved
loop-bits-preserved g c =
    Spells-next (number_bytes c.args.order c.args.items.now.width) c.as_slice-bits-items.result.now c.loop-bits.bits-index 0 _ c.loop-bits-test.true refl
    c.loop-bits.invariant
    c.in_ok-number.ensures

pub loop-bits-init : goal.loop-bits-init
loop-bits-init g c = Spells-none _ _

pub returns : goal.returns
returns g c =
    let bits = c.as_slice-bits-items in
    let all = take_all c.loop-bits.bits-index bits.result.now c.loop-bits-test.false ∙ bits.ensures in
    Spells-as (ap (flat_map (number_bytes c.args.order c.args.items.now.width)) all) c.loop-bits.invariant
