use Rattle.fit_encode.proofs.Common.{rules}
use Rattle.fit_encode.proofs.sink.WriteSinkSink.put.Goals as goal

pub returns-in-Ok-clause-empty : goal.returns-in-Ok-clause-empty
returns-in-Ok-clause-empty g c = search rules

pub returns-in-Err-clause-empty : goal.returns-in-Err-clause-empty
returns-in-Err-clause-empty g c = search rules

pub returns-in-Ok-clause-zero : goal.returns-in-Ok-clause-zero
returns-in-Ok-clause-zero g c = search rules
