use Rattle.fit_stream.proofs.OneFinding.{streams_find_one}
use Rattle.fit_stream.proofs.laws.streams_find_one.Goals as goal

pub returns : goal.returns
returns c = streams_find_one c.events_are_one.ensures c.reasons_are_one.ensures c.progress_is_one.ensures
