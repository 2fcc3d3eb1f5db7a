use Rattle.fit_encode.proofs.Common.{rules}
use Rattle.fit_encode.proofs.write.write_chain.Goals as goal

pub returns-in-Ok-clause-spelled : goal.returns-in-Ok-clause-spelled
returns-in-Ok-clause-spelled g c = search rules

pub returns-clause-written : goal.returns-clause-written
returns-clause-written g c = search rules
