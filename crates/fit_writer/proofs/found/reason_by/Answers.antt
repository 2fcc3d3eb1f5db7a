use Rattle.fit_writer.proofs.LongEnough.{items_reason, items_stand, no_reason}
use Rattle.fit_writer.proofs.found.reason_by.Goals as goal

pub returns-then-least-block-clause-reason : goal.returns-then-least-block-clause-reason
returns-then-least-block-clause-reason c slots is =
    no_reason c.args.block.now slots c.is_lone_message.result c.args.least c.is_lone_message.ensures c.in_default.is is c.if-least-block.true

pub returns-then-least-block-clause-stand : goal.returns-then-least-block-clause-stand
returns-then-least-block-clause-stand c slots is none = items_stand c.args.block.now slots c.args.least is c.if-least-block.true

pub returns-else-least-block-clause-reason : goal.returns-else-least-block-clause-reason
returns-else-least-block-clause-reason c slots is =
    items_reason c.args.block.now slots c.is_lone_message.result c.args.least c.is_lone_message.ensures c.in_default.is is c.if-least-block.false
