use Rattle.std.proofs.Common.{sym}
use Rattle.fit_writer.proofs.IndexFacts.{not_a_byte, not_alone}
use Rattle.fit_writer.proofs.indices.byte_at.Goals as goal

pub returns-then-slot-ne1 : goal.returns-then-slot-ne1
returns-then-slot-ne1 c = sym (not_a_byte c.args.block.now c.args.slot c.if-slot-ne1.true)

pub returns-then-slot-ne1-2 : goal.returns-then-slot-ne1-2
returns-then-slot-ne1-2 c = sym (not_alone c.args.block.now c.args.slot c.if-slot-ne1-2.true)
