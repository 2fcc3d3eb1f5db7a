use Rattle.fit_record.proofs.Common.{rules}
use Rattle.fit_record.proofs.unfinished.completes_front.Goals as goal

pub returns : goal.returns
returns c = search rules
