use Rattle.fit_profile.proofs.Common.{rules}
use Rattle.fit_profile.proofs.counter_places.CounterPlaces.power_in.Goals as goal

pub returns : goal.returns
returns c = search rules
