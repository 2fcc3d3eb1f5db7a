use Rattle.fit_decode.proofs.Common.{chain_end, slice_is_bytes}
use Rattle.fit_decode.proofs.check.check_bytes.Goals as goal

pub feed_all-requires : goal.feed_all-requires
feed_all-requires c = c.new-decoder.ensures

pub returns-clause-files : goal.returns-clause-files
returns-clause-files c = c.feed_all.ensures.files

pub returns-clause-fault : goal.returns-clause-fault
returns-clause-fault c = c.feed_all.ensures.fault

pub returns-clause-place : goal.returns-clause-place
returns-clause-place c = c.feed_all.ensures.place

pub returns-clause-memory : goal.returns-clause-memory
returns-clause-memory c = chain_end c.args.bytes.now c.feed_all.result (slice_is_bytes c.args.bytes.now c.type_inv.bytes) c.feed_all.ensures.fault
