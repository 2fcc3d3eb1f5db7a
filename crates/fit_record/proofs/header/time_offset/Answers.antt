use Rattle.fit_record.proofs.Common.{arith}
use Rattle.std.proofs.lemmas.Grind.{common_steps}
use Rattle.fit_record.proofs.header.time_offset.Goals as goal

pub returns-then-is_compressed : goal.returns-then-is_compressed
returns-then-is_compressed c = grind (arith, common_steps)
