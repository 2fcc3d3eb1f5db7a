use Rattle.fit_record.proofs.Common.{◌≡◌, length}
use Rattle.fit_record.proofs.RoomTestsAnswer.{dev_number_answered}
use Rattle.fit_record.proofs.environment.Env.can_complete_dev.Goals as goal

pub returns-clause-dev_number : goal.returns-clause-dev_number
returns-clause-dev_number g c =
    let sixteen : length c.args.self.now.places ≡ 16 = rw (← c.self.view_is) assumption in
    dev_number_answered c.args.self.now c.args.local c.args.to_come c.args.size c.args.room c.completes_dev.result c.requires sixteen c.completes_dev.ensures

pub returns-clause-test : goal.returns-clause-test
returns-clause-test g c = cc

pub completes_dev-requires : goal.completes_dev-requires
completes_dev-requires g c = assumption
