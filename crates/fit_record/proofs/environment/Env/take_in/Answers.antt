use Rattle.fit_record.proofs.Common.{rules}
use Rattle.fit_record.proofs.environment.Env.take_in.Goals as goal

pub described_by-requires : goal.described_by-requires
described_by-requires g c = assumption

pub describe-requires : goal.describe-requires
describe-requires g c = assumption

pub returns-in-None-clause-free : goal.returns-in-None-clause-free
returns-in-None-clause-free g c = search rules

pub returns-in-Some-clause-ok : goal.returns-in-Some-clause-ok
returns-in-Some-clause-ok g c = search rules
