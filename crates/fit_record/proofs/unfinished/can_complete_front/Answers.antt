use Rattle.fit_record.proofs.RoomTestsAnswer.{front_answered}
use Rattle.fit_record.proofs.unfinished.can_complete_front.Goals as goal

pub returns-clause-front : goal.returns-clause-front
returns-clause-front c = λ e sixteen. front_answered e c.args.dev c.args.come c.args.room _ c.requires c.completes_front.ensures sixteen

pub returns-clause-test : goal.returns-clause-test
returns-clause-test c = cc
