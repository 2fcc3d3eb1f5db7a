use Rattle.fit_c.proofs.handle.FitStream.TheSendSync.{the_send}
use Rattle.fit_c.proofs.laws.streams_move.Goals as goal

pub returns : goal.returns
returns c = the_send
