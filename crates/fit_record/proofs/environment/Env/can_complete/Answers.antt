use Rattle.fit_record.proofs.Common.{◌≡◌, length}
use Rattle.fit_record.proofs.RoomTestsAnswer.{fields_answered, dev_fields_answered}
use Rattle.fit_record.proofs.environment.Env.can_complete.Goals as goal

pub returns-clause-fields : goal.returns-clause-fields
returns-clause-fields g c =
    let sixteen : length c.args.self.now.places ≡ 16 = rw (← c.self.view_is) assumption in
    fields_answered c.args.self.now c.args.local c.args.to_come c.args.size c.args.room c.completes.result c.requires sixteen c.completes.ensures

pub returns-clause-dev_fields : goal.returns-clause-dev_fields
returns-clause-dev_fields g c =
    let sixteen : length c.args.self.now.places ≡ 16 = rw (← c.self.view_is) assumption in
    dev_fields_answered c.args.self.now c.args.local c.args.to_come c.args.size c.args.room c.completes.result c.requires sixteen c.completes.ensures

pub returns-clause-test : goal.returns-clause-test
returns-clause-test g c = cc

pub completes-requires : goal.completes-requires
completes-requires g c = assumption
