use Rattle.fit_profile.proofs.Common.{◌∙◌, ap, subst}
use Rattle.fit_record.specs.MessageBytes.{message_in}
use Rattle.fit_names.specs.Values.{IsAmount}
use Rattle.fit_profile.specs.declared.told.Told.{Told}
use Rattle.fit_profile.proofs.TakenMessages.{planned_inside, told_inside}
use Rattle.fit_profile.proofs.stream.Stream.message_amounts.Goals as goal

pub speed_and_distance-speed-requires : goal.speed_and_distance-speed-requires
speed_and_distance-speed-requires c = record {
  plan = planned_inside c.self.inside.plans.places.items c.args.self.now c.args.message.now c.self.invariant.0 c.self.view_is c.self.invariant.1 c.requires;
  size = c.requires.size;
}

pub returns-clause-speed : goal.returns-clause-speed
returns-clause-speed c =
    let m = c.args.message.now in
    let same = told_inside c.args.self.now (message_in m) m.defined.now c.self.invariant.0 c.self.view_is c.requires.defined in
    subst (λ n. IsAmount 100 n c.in_scale.result) (c.speed_and_distance-speed.ensures.speed ∙ ap (λ (t : Told). t.speed) same)
    c.in_scale.ensures.amount

pub returns-clause-distance : goal.returns-clause-distance
returns-clause-distance c =
    let m = c.args.message.now in
    let same = told_inside c.args.self.now (message_in m) m.defined.now c.self.invariant.0 c.self.view_is c.requires.defined in
    subst (λ n. IsAmount 16 n c.in_scale-2.result) (c.speed_and_distance-speed.ensures.distance ∙ ap (λ (t : Told). t.distance) same)
    c.in_scale-2.ensures.amount
