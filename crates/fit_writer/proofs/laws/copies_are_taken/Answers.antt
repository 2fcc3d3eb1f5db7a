use Rattle.fit_writer.proofs.CopiesTaken.{copies_are_taken}
use Rattle.fit_writer.proofs.laws.copies_are_taken.Goals as goal

pub returns : goal.returns
returns c = copies_are_taken
