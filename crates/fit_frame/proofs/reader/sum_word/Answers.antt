use Rattle.fit_frame.proofs.Common.{arith}
use Rattle.std.proofs.lemmas.Grind.{common_steps}
use Rattle.fit_frame.proofs.reader.sum_word.Goals as goal

pub returns-else-read_u16-checksum : goal.returns-else-read_u16-checksum
returns-else-read_u16-checksum c = grind (arith, common_steps)
