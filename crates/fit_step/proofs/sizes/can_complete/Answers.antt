use Rattle.fit_step.proofs.Common.{sym, ◌+◌, body_length}
use Rattle.fit_step.proofs.FarFromTheEnd.{completes_far}
use Rattle.fit_step.proofs.sizes.can_complete.Goals as goal

pub returns-then-is_far : goal.returns-then-is_far
returns-then-is_far g c =
    let d = c.args.definition.now in
    sym (completes_far c.args.env.now d.local c.args.to_come (body_length d + c.args.size) c.args.room (c.is_far.ensures c.if-is_far.true))
