use Rattle.fit_decode.proofs.Common.{rules}
use Rattle.fit_decode.proofs.source.RefSliceU8Source.take.Goals as goal

pub returns-clause-bytes : goal.returns-clause-bytes
returns-clause-bytes c = search rules
