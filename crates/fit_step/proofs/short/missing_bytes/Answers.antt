use Rattle.fit_step.proofs.Common.{◌≡◌, ◌+◌, ◌-◌, ◌∙◌, ap, Some, Data, arith}
use Rattle.fit_step.proofs.KeptMessages.{is_missing}
use Rattle.fit_step.proofs.short.missing_bytes.Goals as goal

pub returns : goal.returns
returns g c =
    let size = c.in_ok-size.field-0 in
    let kept = c.len-kept.ensures.length in
    let some : c.args.in_progress.now ≡ Some c.in-Some-Values.field-0 = c.in-Some-Values.is in
    let message : c.args.in_progress.now ≡ Some (Data c.in-Some-Values.values) = some ∙ ap Some (rw c.in-Some-Values.is at c.in-Some-Values.field-0-is) in
    is_missing c.args.env.now c.args.position.now c.args.in_progress.now c.in-Some-Values.values size (1 + size - c.len-kept.result) c.in-RecordHeader.is
    message c.in_ok-size.ensures.size (omega (arith, c.if-size-gt-SHORT.false))
    (omega (arith, kept, c.if-kept-size.false)) (omega (arith, c.if-kept-size.false)) (omega (arith, c.if-missing-position.false))
