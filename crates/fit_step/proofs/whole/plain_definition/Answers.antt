use Rattle.fit_step.proofs.Common.{arith}
use Rattle.fit_step.proofs.whole.plain_definition.Goals as goal

pub returns-clause-idle : goal.returns-clause-idle
returns-clause-idle g c = c.in-None.is

pub returns-clause-left : goal.returns-clause-left
returns-clause-left g c = omega (arith, c.if-size-room.false)

pub returns-in_default-clause-whole : goal.returns-in_default-clause-whole
returns-in_default-clause-whole g c = λ idle f entries begins large. absurd (c.in_default.ensures.found f entries begins)

pub returns-then-size-room-clause-whole : goal.returns-then-size-room-clause-whole
returns-then-size-room-clause-whole g c = λ idle f entries begins large.
    absurd (omega (arith, large, c.in-Some-definition_bytes.ensures.found f entries begins, c.if-size-room.true))

pub returns-clause-whole : goal.returns-clause-whole
returns-clause-whole g c = λ idle f entries begins large. c.in-Some-definition_bytes.ensures.found f entries begins
