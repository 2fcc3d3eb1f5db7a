use Rattle.fit_record.proofs.Common.{rules}
use Rattle.fit_record.proofs.held.entry_count.Goals as goal

pub returns-in-Some-clause-count : goal.returns-in-Some-clause-count
returns-in-Some-clause-count g c = search rules
