use Rattle.fit_writer.proofs.PartsRead.{parts_read_as_read}
use Rattle.fit_writer.proofs.laws.parts_read_as_read.Goals as goal

pub returns : goal.returns
returns c = parts_read_as_read
