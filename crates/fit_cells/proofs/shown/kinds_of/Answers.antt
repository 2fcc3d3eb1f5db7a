use Rattle.fit_base.proofs.ByteLists.{slice_is_bytes}
use Rattle.fit_cells.proofs.KindFacts.{seen_more, seen_all, quotes_seen, ascii_seen, zero_seen}
use Rattle.fit_cells.proofs.shown.kinds_of.Goals as goal

pub loop-byte-preserved : goal.loop-byte-preserved
loop-byte-preserved c = seen_more c.args.text.now c.loop-byte.kinds c.loop-byte.byte-index c.loop-byte-test.true c.loop-byte.invariant

pub returns-clause-quotes : goal.returns-clause-quotes
returns-clause-quotes c =
    quotes_seen c.args.text.now c.loop-byte.kinds (slice_is_bytes c.args.text.now c.type_inv.text)
    (seen_all c.args.text.now c.loop-byte.kinds c.loop-byte.byte-index c.loop-byte.invariant c.loop-byte-test.false)

pub returns-clause-ascii : goal.returns-clause-ascii
returns-clause-ascii c =
    ascii_seen c.args.text.now c.loop-byte.kinds (slice_is_bytes c.args.text.now c.type_inv.text)
    (seen_all c.args.text.now c.loop-byte.kinds c.loop-byte.byte-index c.loop-byte.invariant c.loop-byte-test.false)

pub returns-clause-zero : goal.returns-clause-zero
returns-clause-zero c =
    zero_seen c.args.text.now c.loop-byte.kinds (slice_is_bytes c.args.text.now c.type_inv.text)
    (seen_all c.args.text.now c.loop-byte.kinds c.loop-byte.byte-index c.loop-byte.invariant c.loop-byte-test.false)
