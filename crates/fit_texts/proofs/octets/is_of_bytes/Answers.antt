use Rattle.std.proofs.Common.{rules}
use Rattle.fit_texts.proofs.octets.is_of_bytes.Goals as goal

pub returns-else-eq : goal.returns-else-eq
returns-else-eq c = search rules
