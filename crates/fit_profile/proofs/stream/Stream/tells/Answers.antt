use Rattle.fit_profile.proofs.Common.{◌≡◌, ◌∙◌, ap, subst, sym}
use Rattle.std.specs.Prelude.{IfSome}
use Rattle.fit_record.specs.MessageBytes.{message_in}
use Rattle.fit_profile.specs.Accumulated.{tells_more}
use Rattle.fit_profile.specs.declared.told.Told.{Told}
use Rattle.fit_profile.proofs.TakenMessages.{planned_inside, told_inside}
use Rattle.fit_profile.proofs.stream.Stream.tells.Goals as goal

pub plan_of-plan-requires : goal.plan_of-plan-requires
plan_of-plan-requires c =
    planned_inside c.self.inside.plans.places.items c.args.self.now c.args.message.now c.self.invariant.0 c.self.view_is c.self.invariant.1 c.requires

pub returns : goal.returns
returns c =
    let m = c.args.message.now in
    record {
      time = c.time_of_message.ensures
          ∙ ap (λ (t : Told). t.time)
          (told_inside c.args.self.now (message_in m) m.defined.now c.self.invariant.0 c.self.view_is c.requires.defined);
      more = subst (λ o. IfSome o (λ p. c.plan_of-plan.result.now.tells_more ≡ tells_more p.definition)) (sym c.requires.defined)
          c.plan_of-plan.ensures.more;
    }
