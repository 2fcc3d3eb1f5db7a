use Rattle.fit_encode.proofs.Common.{rules}
use Rattle.fit_encode.proofs.spelling.Spelling.begin.Goals as goal

pub returns : goal.returns
returns c = search rules
