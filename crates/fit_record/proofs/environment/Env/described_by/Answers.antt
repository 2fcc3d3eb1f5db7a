use Rattle.fit_record.proofs.Common.{rules}
use Rattle.fit_record.proofs.environment.Env.described_by.Goals as goal

pub returns : goal.returns
returns g c = search rules
