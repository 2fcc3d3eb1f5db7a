use Rattle.fit_profile.proofs.Common.{◌∙◌, refl, sym, accumulated_power, distance, total_cycles}
use Rattle.fit_profile.proofs.CounterBytes.{number_of_bytes}
use Rattle.fit_profile.proofs.message_bytes.counted_of_message.Goals as goal

pub returns : goal.returns
returns c =
    let m = c.args.message.now in
    let order = m.defined.now.definition.order in
    let places = c.requires.plan.counters in
    let far = c.distance_in-distance.ensures order ∙ sym (places.distance.number m.body.now) ∙ number_of_bytes distance m in
    let cycles = c.cycles_in-cycles.ensures order ∙ sym (places.cycles.number m.body.now) ∙ number_of_bytes total_cycles m in
    let power = c.power_in-power.ensures ∙ sym (places.power.number m.body.now) ∙ number_of_bytes accumulated_power m in
    c.counted.ensures ∙ rw (c.time_of_message-time.ensures, c.header_time-header_time.ensures, far, cycles, power) refl
