use Rattle.fit_record.proofs.Common.{◌∙◌, arith, None, Some}
use Rattle.fit_record.proofs.CarriedMessages.{carried_by_size, after_it, too_long}
use Rattle.fit_record.proofs.RoomTestsAnswer.{message_answered}
use Rattle.fit_record.proofs.environment.Env.can_carry.Goals as goal

pub returns-then-size-room-clause-test : goal.returns-then-size-room-clause-test
returns-then-size-room-clause-test g c =
    let e = c.args.self.now in
    after_it e c.args.room c.in-Some.size c.can_fill.result c.length.ensures.places (omega arith) c.can_fill.ensures
    ∙ carried_by_size e c.args.local c.args.room (Some c.in-Some.size) c.in-Some.ensures.size

pub returns-else-size-room-clause-test : goal.returns-else-size-room-clause-test
returns-else-size-room-clause-test g c =
    let e = c.args.self.now in
    too_long e c.args.room c.in-Some.size (omega arith) ∙ carried_by_size e c.args.local c.args.room (Some c.in-Some.size) c.in-Some.ensures.size

pub returns-in-None-clause-test : goal.returns-in-None-clause-test
returns-in-None-clause-test g c = carried_by_size c.args.self.now c.args.local c.args.room None c.in-None.ensures.size

pub returns-then-size-room-clause-message : goal.returns-then-size-room-clause-message
returns-then-size-room-clause-message g c =
    message_answered c.args.self.now c.args.local c.args.room _ c.length.ensures.places (returns-then-size-room-clause-test g c)

pub returns-else-size-room-clause-message : goal.returns-else-size-room-clause-message
returns-else-size-room-clause-message g c =
    message_answered c.args.self.now c.args.local c.args.room _ c.length.ensures.places (returns-else-size-room-clause-test g c)

pub returns-in-None-clause-message : goal.returns-in-None-clause-message
returns-in-None-clause-message g c = message_answered c.args.self.now c.args.local c.args.room _ c.length.ensures.places (returns-in-None-clause-test g c)

pub length-requires : goal.length-requires
length-requires g c = assumption

pub can_fill-requires : goal.can_fill-requires
can_fill-requires g c = assumption
