use Rattle.fit_encode.proofs.Common.{rules}
use Rattle.fit_encode.proofs.chain_bytes.sum_of.Goals as goal

pub returns : goal.returns
returns c = search rules
