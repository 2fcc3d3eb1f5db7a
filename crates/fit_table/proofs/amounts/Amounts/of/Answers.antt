use Rattle.fit_table.proofs.Common.{inl, inr, refl}
use Rattle.fit_record.specs.MessageBytes.{message_in}
use Rattle.fit_profile.specs.Told.{told}
use Rattle.fit_table.proofs.ShownAmounts.{amount_shown}
use Rattle.fit_table.proofs.amounts.Amounts.of.Goals as goal

pub returns : goal.returns
returns c =
    let asked = c.message_amounts-speed in
    let t = told c.args.stream.now (message_in c.args.message.now) in
    record {
      speed = amount_shown 100 t.speed asked.result.0 (inr (inr (inr (inl refl)))) asked.ensures.speed;
      distance = amount_shown 16 t.distance asked.result.1 (inr (inr (inr (inr (inr (inl refl)))))) asked.ensures.distance;
      few_speed = asked.ensures.few_speed;
      few_distance = asked.ensures.few_distance;
    }
