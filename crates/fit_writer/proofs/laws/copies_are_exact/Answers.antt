use Rattle.fit_writer.proofs.CopiedFiles.{copies_are_exact}
use Rattle.fit_writer.proofs.laws.copies_are_exact.Goals as goal

pub returns : goal.returns
returns c = copies_are_exact
