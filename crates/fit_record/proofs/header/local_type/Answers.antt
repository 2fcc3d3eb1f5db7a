use Rattle.fit_record.proofs.Common.{arith}
use Rattle.std.proofs.lemmas.Grind.{common_steps}
use Rattle.fit_record.proofs.header.local_type.Goals as goal

pub returns-else-is_compressed : goal.returns-else-is_compressed
returns-else-is_compressed c = grind (arith, common_steps)
