use Rattle.fit_profile.proofs.Common.{◌∙◌, refl, Some}
use Rattle.fit_profile.proofs.Planned.{may_count_is}
use Rattle.fit_profile.proofs.message_bytes.say_next.Goals as goal

pub returns-clause-said : goal.returns-clause-said
returns-clause-said c lone is = record {
  local = refl;
  offset = refl;
  counts = c.may_count.ensures ∙ may_count_is c.args.plan.now (Some c.args.message.now.defined.now) c.requires.plan;
  lone = is;
  told = c.tell_next-told.ensures.told;
}
