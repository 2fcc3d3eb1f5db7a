use Rattle.fit_profile.proofs.Common.{◌∙◌, sym}
use Rattle.fit_profile.proofs.NoCounters.{no-places}
use Rattle.fit_profile.proofs.counter_places.CounterPlaces.of.Goals as goal

pub returns-then-not-may_count : goal.returns-then-not-may_count
returns-then-not-may_count c = no-places c.args.definition.now (sym c.requires.counts ∙ c.if-not-may_count.true)
