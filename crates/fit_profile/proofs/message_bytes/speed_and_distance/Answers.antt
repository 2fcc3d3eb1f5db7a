use Rattle.fit_profile.proofs.Common.{◌∙◌, ◌%◌, ◌^◌, ap, sym, distance, option_and_then}
use Rattle.std.proofs.Common.{option_map}
use Rattle.fit_profile.specs.Accumulated.{next_from}
use Rattle.fit_profile.proofs.CounterBytes.{number_of_bytes}
use Rattle.fit_profile.proofs.message_bytes.speed_and_distance.Goals as goal

pub returns-clause-speed : goal.returns-clause-speed
returns-clause-speed c =
    let m = c.args.message.now in
    let order = m.defined.now.definition.order in
    let number = c.distance_in-number.ensures order ∙ sym (c.plan_of.ensures.counters.distance.number m.body.now) ∙ number_of_bytes distance m in
    c.speed.ensures ∙ ap (option_map (λ x. x % 2 ^ 12)) number

pub returns-clause-distance : goal.returns-clause-distance
returns-clause-distance c =
    let m = c.args.message.now in
    let order = m.defined.now.definition.order in
    let number = c.distance_in-number.ensures order ∙ sym (c.plan_of.ensures.counters.distance.number m.body.now) ∙ number_of_bytes distance m in
    c.accumulated.ensures ∙ ap (option_and_then (next_from c.args.last.distance distance)) number
