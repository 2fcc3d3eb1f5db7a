use Rattle.fit_decode.proofs.Common.{rules}
use Rattle.fit_decode.proofs.source.CutSourceSource.take.Goals as goal

pub returns-clause-fails : goal.returns-clause-fails
returns-clause-fails c = search rules
