use Rattle.fit_record.proofs.Common.{rules}
use Rattle.fit_record.proofs.fits.definition_fits.Goals as goal

pub returns-else-len-ge256-2-clause-ok : goal.returns-else-len-ge256-2-clause-ok
returns-else-len-ge256-2-clause-ok g c = search rules
