use Rattle.fit_record.proofs.Common.{sym, ap, subst, ◌∙◌, Some, IfSome, IsSound}
use Rattle.fit_record.proofs.HeldDefinitions.{held_is}
use Rattle.fit_record.proofs.environment.Env.holds.Goals as goal

pub returns-in-Some : goal.returns-in-Some
returns-in-Some g c = λ yes.
    let at = c.in-Some.ensures.place in
    let sound = subst (λ o. IfSome o IsSound) (sym at) c.in-Some.ensures.sound in
    sym at ∙ ap Some (held_is c.args.self.now c.in-Some.p.now c.args.d.now sound (c.are_same.ensures.0 yes))
