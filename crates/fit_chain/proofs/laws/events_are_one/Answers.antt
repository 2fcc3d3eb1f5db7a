use Rattle.fit_chain.proofs.OneReason.{one_list_of_events}
use Rattle.fit_chain.proofs.laws.events_are_one.Goals as goal

pub returns : goal.returns
returns g c = one_list_of_events
