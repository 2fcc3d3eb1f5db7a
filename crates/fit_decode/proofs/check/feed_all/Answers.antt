-- What was passed over and fed is a front of the bytes, and at the end all of them.
use Rattle.fit_decode.proofs.Common.{◌^◌, ◌<◌, length, length-append, arith, ap, event_of, subst, sym, ◌∙◌, Global, eqb-true}
use Rattle.fit_decode.proofs.Common.{AreChain, IsFaultOf, LacksMemoryAt}
use Rattle.std.proofs.Common.{IfErr, OnOk}
use Rattle.std.proofs.lemmas.Result.{IfOk-from_err, err_from_is_err_and}
use Rattle.fit_decode.proofs.Checking.{Finishes, bad_end, bad_place, counted_end, fed_after, feeds_first, good_end, less_left, passed_over, stopped, stopped_at}
use Rattle.fit_decode.proofs.Checking.{stops}
use Rattle.fit_decode.proofs.check.feed_all.Goals as goal

pub returns-in-Err-clause-fault : goal.returns-in-Err-clause-fault
returns-in-Err-clause-fault c =
    let before = passed_over c.args.bytes.now c.loop-rest.decoder c.skip_records-passed.new.self c.loop-rest.rest.now c.split_at.result.1.now
    c.skip_records-passed.result.0 c.loop-rest.invariant c.skip_records-passed.ensures.used c.skip_records-passed.ensures.viable c.split_at.ensures.back in
    let halted = stops c.skip_records-passed.new.self c.feed.new.self c.split_at.result.1.now c.feed.result c.in-Err.fault c.in-Err.is before.fresh
    c.feed.ensures.refused c.feed.ensures.memory c.feed.ensures.others c.feed.ensures.viable in
    let short : length c.args.bytes.now < 2 ^ 64 = assumption in
    subst (IsFaultOf c.args.bytes.now) (sym c.after.ensures)
    (stopped c.args.bytes.now c.skip_records-passed.new.self c.feed.new.self c.split_at.result.1.now c.in-Err.fault short before halted)

pub returns-in-Err-clause-place : goal.returns-in-Err-clause-place
returns-in-Err-clause-place c =
    let before = passed_over c.args.bytes.now c.loop-rest.decoder c.skip_records-passed.new.self c.loop-rest.rest.now c.split_at.result.1.now
    c.skip_records-passed.result.0 c.loop-rest.invariant c.skip_records-passed.ensures.used c.skip_records-passed.ensures.viable c.split_at.ensures.back in
    let halted = stops c.skip_records-passed.new.self c.feed.new.self c.split_at.result.1.now c.feed.result c.in-Err.fault c.in-Err.is before.fresh
    c.feed.ensures.refused c.feed.ensures.memory c.feed.ensures.others c.feed.ensures.viable in
    let short : length c.args.bytes.now < 2 ^ 64 = assumption in
    subst (LacksMemoryAt c.args.bytes.now) (sym c.after.ensures)
    (stopped_at c.args.bytes.now c.skip_records-passed.new.self c.feed.new.self c.split_at.result.1.now c.in-Err.fault short before halted)

pub returns-in_err-finish-clause-fault : goal.returns-in_err-finish-clause-fault
returns-in_err-finish-clause-fault c =
    let p = err_from_is_err_and c.from_residual.result c.from_residual.ensures.1 in
    let over = eqb-true (length c.loop-rest.rest.now) 0 (sym c.is_empty.ensures ∙ c.loop-rest-test.false) in
    let finishes : Finishes c.loop-rest.decoder c.finish.result = record { good = c.finish.ensures.good; truncated = c.finish.ensures.truncated } in
    rw (p.1, p.2)
    (subst (λ r. IfErr r (IsFaultOf c.args.bytes.now)) c.in_err-finish.was
    (bad_end c.args.bytes.now c.loop-rest.decoder c.loop-rest.rest.now c.finish.result c.loop-rest.invariant over finishes))

pub returns-in_err-finish-clause-place : goal.returns-in_err-finish-clause-place
returns-in_err-finish-clause-place c =
    let p = err_from_is_err_and c.from_residual.result c.from_residual.ensures.1 in
    let finishes : Finishes c.loop-rest.decoder c.finish.result = record { good = c.finish.ensures.good; truncated = c.finish.ensures.truncated } in
    rw (p.1, p.2)
    (subst (λ r. IfErr r (LacksMemoryAt c.args.bytes.now)) c.in_err-finish.was
    (bad_place c.args.bytes.now c.loop-rest.decoder c.finish.result c.loop-rest.invariant.fresh finishes))

pub returns-in_err-finish-clause-files : goal.returns-in_err-finish-clause-files
returns-in_err-finish-clause-files c = IfOk-from_err c.from_residual.result _ c.from_residual.ensures.0

pub returns-clause-files : goal.returns-clause-files
returns-clause-files c =
    let over = eqb-true (length c.loop-rest.rest.now) 0 (sym c.is_empty.ensures ∙ c.loop-rest-test.false) in
    let finishes : Finishes c.loop-rest.decoder c.finish.result = record { good = c.finish.ensures.good; truncated = c.finish.ensures.truncated } in
    let chain = subst (λ r. OnOk r (AreChain Global c.args.bytes.now)) c.in_ok-finish.was
    (good_end c.args.bytes.now c.loop-rest.decoder c.loop-rest.rest.now c.finish.result c.loop-rest.invariant over finishes) in
    counted_end c.args.bytes.now c.loop-rest.decoder c.loop-rest.rest.now c.files.result c.loop-rest.invariant over chain c.files.ensures.files

pub loop-rest-init : goal.loop-rest-init
loop-rest-init c = feeds_first c.args.bytes.now c.args.decoder.now c.requires

pub split_at-requires : goal.split_at-requires
split_at-requires c = c.skip_records-passed.ensures.within

pub overflow_sub-before : goal.overflow_sub-before
overflow_sub-before c =
    let before = passed_over c.args.bytes.now c.loop-rest.decoder c.skip_records-passed.new.self c.loop-rest.rest.now c.split_at.result.1.now
    c.skip_records-passed.result.0 c.loop-rest.invariant c.skip_records-passed.ensures.used c.skip_records-passed.ensures.viable c.split_at.ensures.back in
    omega (arith, ap length before.joined, length-append c.skip_records-passed.new.self.bytes c.split_at.result.1.now)

pub split_at-requires-in-Ok : goal.split_at-requires-in-Ok
split_at-requires-in-Ok c = c.in-Ok.ensures.used.0

pub loop-rest-preserved : goal.loop-rest-preserved
loop-rest-preserved c =
    let before = passed_over c.args.bytes.now c.loop-rest.decoder c.skip_records-passed.new.self c.loop-rest.rest.now c.split_at.result.1.now
    c.skip_records-passed.result.0 c.loop-rest.invariant c.skip_records-passed.ensures.used c.skip_records-passed.ensures.viable c.split_at.ensures.back in
    fed_after c.args.bytes.now c.skip_records-passed.new.self c.feed.new.self c.split_at.result.1.now c.split_at-in-Ok.result.1.now c.in-Ok.fed.used
    before c.in-Ok.ensures.used c.in-Ok.ensures.viable c.split_at-in-Ok.ensures.back

pub loop-rest-smaller : goal.loop-rest-smaller
loop-rest-smaller c =
    less_left c.loop-rest.rest.now c.split_at.result.1.now c.split_at-in-Ok.result.1.now c.skip_records-passed.result.0 c.in-Ok.fed.used
    (event_of c.in-Ok.fed.event) (sym c.is_empty.ensures ∙ c.loop-rest-test.true) c.split_at.ensures.back c.split_at-in-Ok.ensures.back
    c.in-Ok.ensures.more c.in-Ok.ensures.event
