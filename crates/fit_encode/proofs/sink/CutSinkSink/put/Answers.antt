use Rattle.fit_encode.proofs.Common.{rules}
use Rattle.fit_encode.proofs.sink.CutSinkSink.put.Goals as goal

pub returns-then-self-clause-takes : goal.returns-then-self-clause-takes
returns-then-self-clause-takes g c = search rules
