use Rattle.fit_c.proofs.writer_handle.FitWriter.TheSendSync.{the_send}
use Rattle.fit_c.proofs.laws.writers_move.Goals as goal

pub returns : goal.returns
returns c = the_send
