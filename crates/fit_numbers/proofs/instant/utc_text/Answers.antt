use Rattle.std.proofs.Common.{rules}
use Rattle.fit_numbers.proofs.instant.utc_text.Goals as goal

pub returns : goal.returns
returns c = search rules
