use Rattle.fit_encode.proofs.Sendings.{Spells-none}
use Rattle.fit_encode.proofs.spelling.Spelling.make_room.Goals as goal

pub returns-clause-sends : goal.returns-clause-sends
returns-clause-sends g c = Spells-none _ c.args.self.now
