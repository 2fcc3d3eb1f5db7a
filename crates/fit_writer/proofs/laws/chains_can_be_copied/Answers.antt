use Rattle.fit_writer.proofs.CopiedFiles.{chains_can_be_copied}
use Rattle.fit_writer.proofs.laws.chains_can_be_copied.Goals as goal

pub returns : goal.returns
returns c = chains_can_be_copied
