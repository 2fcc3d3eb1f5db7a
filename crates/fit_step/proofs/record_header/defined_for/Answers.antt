use Rattle.fit_step.proofs.Common.{arith}
use Rattle.fit_step.proofs.HeaderSteps.{undefined_at, overrun_at, no_fit_at, goes_at}
use Rattle.fit_step.proofs.record_header.defined_for.Goals as goal

pub returns-in_default-clause-err : goal.returns-in_default-clause-err
returns-in_default-clause-err g c = undefined_at c.args.env.now c.args.room c.args.byte c.local_type-local.result c.local_type-local.ensures
    c.in_default.ensures.place

pub returns-then-room-size-clause-err : goal.returns-then-room-size-clause-err
returns-then-room-size-clause-err g c =
    overrun_at c.args.env.now c.args.room c.args.byte c.local_type-local.result c.local_type-local.ensures c.in-Some-length.size c.in-Some-length.ensures.size
    c.if-room-size.true

pub returns-then-not-can_carry-clause-err : goal.returns-then-not-can_carry-clause-err
returns-then-not-can_carry-clause-err g c =
    no_fit_at c.args.env.now c.args.room c.args.byte c.local_type-local.result c.local_type-local.ensures c.in-Some-length.size c.in-Some-length.ensures.size
    (omega (arith, c.if-room-size.false)) c.if-not-can_carry.ensures.test

pub returns-clause-goes : goal.returns-clause-goes
returns-clause-goes g c =
    goes_at c.args.env.now c.args.room c.args.byte c.local_type-local.result c.local_type-local.ensures c.in-Some-length.size c.in-Some.defined.now
    c.in-Some.ensures.place c.in-Some-length.ensures.size
    (omega (arith, c.if-room-size.false)) c.if-not-can_carry.ensures.test

pub defined-requires : goal.defined-requires
defined-requires g c = assumption

pub length-requires : goal.length-requires
length-requires g c = assumption

pub can_carry-requires : goal.can_carry-requires
can_carry-requires g c = assumption
