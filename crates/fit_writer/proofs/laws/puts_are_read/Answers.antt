use Rattle.fit_writer.proofs.AllRead.{put_is_read}
use Rattle.fit_writer.proofs.laws.puts_are_read.Goals as goal

pub returns : goal.returns
returns c = put_is_read
