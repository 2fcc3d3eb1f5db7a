use Rattle.fit_profile.proofs.Common.{sym}
use Rattle.fit_profile.proofs.LeastFacts.{least-none, least-before, least-after}
use Rattle.fit_profile.proofs.least.steps_to.Goals as goal

pub returns-then-modulus-rest-clause-least : goal.returns-then-modulus-rest-clause-least
returns-then-modulus-rest-clause-least c = sym (least-none c.args.start c.args.rest c.args.modulus c.requires.above c.if-modulus-rest.true)

pub returns-then-at-rest-clause-least : goal.returns-then-at-rest-clause-least
returns-then-at-rest-clause-least c = sym (least-before c.args.start c.args.rest c.args.modulus c.if-modulus-rest.false c.if-at-rest.true)

pub returns-else-at-rest-clause-least : goal.returns-else-at-rest-clause-least
returns-else-at-rest-clause-least c = sym (least-after c.args.start c.args.rest c.args.modulus c.if-modulus-rest.false c.if-at-rest.false)
