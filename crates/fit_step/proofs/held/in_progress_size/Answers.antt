use Rattle.fit_step.proofs.Common.{◌≡◌, ◌≤◌, ◌∙◌, sym, ap, subst, arith, length, Some, Data, in_progress_size, IsCountable, message_held}
use Rattle.fit_step.proofs.HeldInProgress.{values_made}
use Rattle.fit_step.proofs.held.in_progress_size.Goals as goal

pub returns-in_default : goal.returns-in_default
returns-in_default g c =
    let e = c.args.env.now in
    let p = c.args.position.now in
    let o = c.args.in_progress.now in
    let v = c.in-Some-Values.values in
    let some : o ≡ Some c.in-Some-Values.field-0 = c.in-Some-Values.is in
    let message : o ≡ Some (Data v) = some ∙ ap Some (rw c.in-Some-Values.is at c.in-Some-Values.field-0-is) in
    let made = values_made e p.phase (length p.partial) v c.in_default.not-RecordHeader in
    let few : message_held e p.phase (length p.partial) v ≤ 130560 = subst (IsCountable e p) message c.requires in
    record {
      size = c.values_size.ensures ∙ sym made ∙ ap (in_progress_size e p) (sym message);
      small = omega (arith, few, made, c.values_size.ensures);
    }
