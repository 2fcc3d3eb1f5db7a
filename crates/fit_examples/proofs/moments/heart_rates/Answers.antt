-- What is fed is a front of the ride, and what is noted is that of its events.
use Rattle.fit_examples.proofs.Common.{rules, ◌^◌, ◌<◌, [], length, subst, sym, ◌∙◌, IfErr, Global, eqb-true, err_from_is_err_and, slice_is_bytes, AreChain}
use Rattle.fit_examples.proofs.Common.{IsFaultOf, Seen, Feeds, bad_end, feeds_on, good_end, stopped, stops, taken_before, chain_end, fault_of_chain}
use Rattle.std.proofs.Common.{OnOk}
use Rattle.fit_examples.proofs.Noted.{Noted, heard_on, noted_all, noted_on, nothing_noted}
use Rattle.fit_examples.proofs.Common.{List, ℕ, event_of}
use Rattle.fit_examples.proofs.Shrinking.{feeds_first, less_left}
use Rattle.fit_examples.proofs.moments.heart_rates.Goals as goal

pub loop-rest-init : goal.loop-rest-init
loop-rest-init c = (
  feeds_first c.args.ride.now c.new-decoder.result c.new-decoder.ensures,
  subst (λ s. Noted c.new-decoder.result.bytes s c.new-moments.result.items) (sym c.new-stream.ensures)
      (subst (λ (s : Seen). Noted s.bytes [] c.new-moments.result.items) (sym c.new-decoder.ensures)
      (subst (Noted [] []) (sym c.new-moments.ensures.items) nothing_noted)),
)

pub note-requires : goal.note-requires
note-requires c =
    let noted = c.loop-rest.invariant.1 in (
      noted.heard,
      noted.records,
      (
        c.feed.new.self.bytes,
        c.in-Ok.ensures.viable,
        heard_on c.loop-rest.decoder c.feed.new.self c.loop-rest.rest.now c.in-Ok.fed.used c.in-Ok.fed.event noted.heard noted.are
            (record { more = λ none. (c.in-Ok.ensures.more none).1; event = λ x is. (c.in-Ok.ensures.event x is).1 })
            c.in-Ok.ensures.used.1,
      ),
    )

pub loop-rest-preserved : goal.loop-rest-preserved
loop-rest-preserved c = (
  subst (Feeds c.args.ride.now c.feed.new.self) (sym c.split_at.ensures.back)
      (feeds_on c.args.ride.now c.loop-rest.decoder c.feed.new.self c.loop-rest.rest.now c.in-Ok.fed.used c.loop-rest.invariant.0
      c.in-Ok.ensures.used.1 c.in-Ok.ensures.viable),
  noted_on c.loop-rest.decoder c.feed.new.self c.loop-rest.rest.now c.in-Ok.fed.used c.in-Ok.fed.event c.loop-rest.stream c.note.new.stream
      c.loop-rest.moments.items c.note.new.moments.items c.loop-rest.invariant.1
      (record { more = λ none. (c.in-Ok.ensures.more none).1; event = λ x is. (c.in-Ok.ensures.event x is).1 })
      c.in-Ok.ensures.used.1 c.in-Ok-note.ensures.stream c.in-Ok-note.ensures.moments,
)

pub returns-in_default-clause-fault : goal.returns-in_default-clause-fault
returns-in_default-clause-fault c =
    taken_before c.args.ride.now c.feed.new.self c.split_at.result.1.now
    (subst (Feeds c.args.ride.now c.feed.new.self) (sym c.split_at.ensures.back)
    (feeds_on c.args.ride.now c.loop-rest.decoder c.feed.new.self c.loop-rest.rest.now c.in-Ok.fed.used c.loop-rest.invariant.0
    c.in-Ok.ensures.used.1 c.in-Ok.ensures.viable))

pub returns-in-Err-clause-fault : goal.returns-in-Err-clause-fault
returns-in-Err-clause-fault c =
    let short : length c.args.ride.now < 2 ^ 64 = search rules in
    subst (IsFaultOf c.args.ride.now) (sym c.after.ensures)
    (stopped c.args.ride.now c.loop-rest.decoder c.feed.new.self c.loop-rest.rest.now c.in-Err.fault short c.loop-rest.invariant.0
    (stops c.loop-rest.decoder c.feed.new.self c.loop-rest.rest.now c.feed.result c.in-Err.fault c.in-Err.is c.loop-rest.invariant.0.fresh
    c.feed.ensures.refused c.feed.ensures.memory c.feed.ensures.others c.feed.ensures.viable))

pub returns-in-Err-clause-memory : goal.returns-in-Err-clause-memory
returns-in-Err-clause-memory c =
    fault_of_chain c.args.ride.now c.after.result (slice_is_bytes c.args.ride.now c.type_inv.ride) (returns-in-Err-clause-fault c)

pub returns-in_err-finish-clause-fault : goal.returns-in_err-finish-clause-fault
returns-in_err-finish-clause-fault c =
    let p = err_from_is_err_and c.from_residual.result c.from_residual.ensures.1 in
    rw (p.1, p.2)
    (subst (λ r. IfErr r (IsFaultOf c.args.ride.now)) c.in_err-finish.was
    (bad_end c.args.ride.now c.loop-rest.decoder c.loop-rest.rest.now c.finish.result c.loop-rest.invariant.0
    (eqb-true (length c.loop-rest.rest.now) 0 (sym c.is_empty.ensures ∙ c.loop-rest-test.false))
    (record { good = c.finish.ensures.good; truncated = c.finish.ensures.truncated })))

pub returns-in_err-finish-clause-memory : goal.returns-in_err-finish-clause-memory
returns-in_err-finish-clause-memory c =
    chain_end c.args.ride.now c.from_residual.result (slice_is_bytes c.args.ride.now c.type_inv.ride) (returns-in_err-finish-clause-fault c)

pub returns-clause-good : goal.returns-clause-good
returns-clause-good c =
    subst (λ r. OnOk r (AreChain Global c.args.ride.now)) c.in_ok-finish.was
    (good_end c.args.ride.now c.loop-rest.decoder c.loop-rest.rest.now c.finish.result c.loop-rest.invariant.0
    (eqb-true (length c.loop-rest.rest.now) 0 (sym c.is_empty.ensures ∙ c.loop-rest-test.false))
    (record { good = c.finish.ensures.good; truncated = c.finish.ensures.truncated }))

pub returns-clause-moments : goal.returns-clause-moments
returns-clause-moments c =
    noted_all c.events_are_one.ensures c.args.ride.now c.loop-rest.decoder c.loop-rest.rest.now c.loop-rest.stream c.loop-rest.moments.items
    c.loop-rest.invariant.0 (eqb-true (length c.loop-rest.rest.now) 0 (sym c.is_empty.ensures ∙ c.loop-rest-test.false)) c.loop-rest.invariant.1

pub loop-rest-smaller : goal.loop-rest-smaller
loop-rest-smaller c =
    subst (λ (l : List ℕ). length l < length c.loop-rest.rest.now) (sym c.split_at.ensures.back)
    (less_left (event_of c.in-Ok.fed.event) c.in-Ok.fed.used c.loop-rest.rest.now c.in-Ok.ensures.used.0 (λ none. (c.in-Ok.ensures.more none).0)
    (λ x is. (c.in-Ok.ensures.event x is).0) (sym c.is_empty.ensures ∙ c.loop-rest-test.true))
