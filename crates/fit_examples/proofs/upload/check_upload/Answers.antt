-- What is fed is a front of the upload, and at the end all of it.
use Rattle.fit_examples.proofs.Common.{◌^◌, ◌<◌, length, rules, subst, sym, ◌∙◌, eqb-true, slice_is_bytes, IsFaultOf, LacksMemoryAt, bad_end, good_end, stopped}
use Rattle.fit_examples.proofs.Common.{stopped_at, stops, chain_end, fault_of_chain, Feeds, feeds_on}
use Rattle.fit_examples.proofs.Common.{List, ℕ, event_of}
use Rattle.fit_examples.proofs.Shrinking.{feeds_first, less_left}
use Rattle.fit_examples.proofs.upload.check_upload.Goals as goal

pub returns-in-Err-clause-fault : goal.returns-in-Err-clause-fault
returns-in-Err-clause-fault c =
    let short : length c.args.upload.now < 2 ^ 64 = search rules in
    subst (IsFaultOf c.args.upload.now) (sym c.after.ensures)
    (stopped c.args.upload.now c.loop-rest.decoder c.feed.new.self c.loop-rest.rest.now c.in-Err.fault short c.loop-rest.invariant
    (stops c.loop-rest.decoder c.feed.new.self c.loop-rest.rest.now c.feed.result c.in-Err.fault c.in-Err.is c.loop-rest.invariant.fresh
    c.feed.ensures.refused c.feed.ensures.memory c.feed.ensures.others c.feed.ensures.viable))

pub returns-in-Err-clause-place : goal.returns-in-Err-clause-place
returns-in-Err-clause-place c =
    let short : length c.args.upload.now < 2 ^ 64 = search rules in
    subst (LacksMemoryAt c.args.upload.now) (sym c.after.ensures)
    (stopped_at c.args.upload.now c.loop-rest.decoder c.feed.new.self c.loop-rest.rest.now c.in-Err.fault short c.loop-rest.invariant
    (stops c.loop-rest.decoder c.feed.new.self c.loop-rest.rest.now c.feed.result c.in-Err.fault c.in-Err.is c.loop-rest.invariant.fresh
    c.feed.ensures.refused c.feed.ensures.memory c.feed.ensures.others c.feed.ensures.viable))

pub returns-in-Err-clause-memory : goal.returns-in-Err-clause-memory
returns-in-Err-clause-memory c =
    fault_of_chain c.args.upload.now c.after.result (slice_is_bytes c.args.upload.now c.type_inv.upload) (returns-in-Err-clause-fault c)

pub returns-clause-good : goal.returns-clause-good
returns-clause-good c =
    good_end c.args.upload.now c.loop-rest.decoder c.loop-rest.rest.now c.finish.result c.loop-rest.invariant
    (eqb-true (length c.loop-rest.rest.now) 0 (sym c.is_empty.ensures ∙ c.loop-rest-test.false))
    (record { good = c.finish.ensures.good; truncated = c.finish.ensures.truncated })

pub returns-clause-fault : goal.returns-clause-fault
returns-clause-fault c =
    bad_end c.args.upload.now c.loop-rest.decoder c.loop-rest.rest.now c.finish.result c.loop-rest.invariant
    (eqb-true (length c.loop-rest.rest.now) 0 (sym c.is_empty.ensures ∙ c.loop-rest-test.false))
    (record { good = c.finish.ensures.good; truncated = c.finish.ensures.truncated })

pub returns-clause-memory : goal.returns-clause-memory
returns-clause-memory c =
    chain_end c.args.upload.now c.finish.result (slice_is_bytes c.args.upload.now c.type_inv.upload) (returns-clause-fault c)

pub loop-rest-preserved : goal.loop-rest-preserved
loop-rest-preserved c =
    subst (Feeds c.args.upload.now c.feed.new.self) (sym c.split_at.ensures.back)
    (feeds_on c.args.upload.now c.loop-rest.decoder c.feed.new.self c.loop-rest.rest.now c.in-Ok.fed.used c.loop-rest.invariant
    c.in-Ok.ensures.used.1 c.in-Ok.ensures.viable)

pub loop-rest-init : goal.loop-rest-init
loop-rest-init c = feeds_first c.args.upload.now c.new-decoder.result c.new-decoder.ensures

pub loop-rest-smaller : goal.loop-rest-smaller
loop-rest-smaller c =
    subst (λ (l : List ℕ). length l < length c.loop-rest.rest.now) (sym c.split_at.ensures.back)
    (less_left (event_of c.in-Ok.fed.event) c.in-Ok.fed.used c.loop-rest.rest.now c.in-Ok.ensures.used.0 (λ none. (c.in-Ok.ensures.more none).0)
    (λ x is. (c.in-Ok.ensures.event x is).0) (sym c.is_empty.ensures ∙ c.loop-rest-test.true))
