use Rattle.fit_step.proofs.Common.{◌≡◌, ◌∙◌, sym, subst, Some, state_at, tests_of, Adds}
use Rattle.fit_step.proofs.Undoing.{adds}
use Rattle.fit_step.proofs.undone.undo.Goals as goal

pub returns : goal.returns
returns g c = λ e before r byte left low stands made whole.
    let found : Some c.in-Some.whole ≡ Some r = sym c.in-Some.is ∙ c.take.ensures.value ∙ whole in
    let same : r ≡ c.in-Some.whole = cc in
    c.before-2.ensures before (subst (Adds c.args.position.now.phase before) same
    (adds e (tests_of e) byte low left r (state_at c.args.position.now before) stands made))
