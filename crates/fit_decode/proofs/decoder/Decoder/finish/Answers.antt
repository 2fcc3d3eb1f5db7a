use Rattle.fit_decode.proofs.Common.{◌≡◌, length, refl, sym, ap, ◌∙◌, Err, true, Truncated}
use Rattle.fit_chain.specs.declared.event.Fault.TheVariants.{Refused}
use Rattle.fit_decode.proofs.Feeding.{not_latched, none_refused, place_seen, reason_seen, reason_kept, chain_fed, ends_with_chain}
use Rattle.fit_decode.proofs.decoder.Decoder.finish.Goals as goal

pub returns-in-Latched-clause-good : goal.returns-in-Latched-clause-good
returns-in-Latched-clause-good g c = (
  λ never. absurd cc,
  λ both.
      absurd (reason_kept c.self.inside c.self.invariant c.args.self.now c.self.view_is c.in-Latched.reason c.in-Latched.is both.0),
)

pub returns-in-Latched-clause-refused : goal.returns-in-Latched-clause-refused
returns-in-Latched-clause-refused g c = λ reason is.
    let place : c.self.inside.count ≡ length c.args.self.now.bytes = place_seen c.self.inside c.self.invariant c.args.self.now c.self.view_is in
    let same : c.in-Latched.reason ≡ reason =
    reason_seen c.self.inside c.self.invariant c.args.self.now c.self.view_is c.in-Latched.reason reason c.in-Latched.is is in
    ap Err c.refused_at.ensures ∙ λ i. Err (Refused (place i) (same i))

pub returns-then-has_ended-clause-good : goal.returns-then-has_ended-clause-good
returns-then-has_ended-clause-good g c =
    let fresh = not_latched c.self.inside.stage.section c.in_default.not-Latched in
    (λ is. chain_fed c.self.inside c.self.invariant c.args.self.now c.self.view_is fresh (c.has_ended.ensures.0 c.if-has_ended.true), λ both. refl)

pub returns-else-has_ended-clause-good : goal.returns-else-has_ended-clause-good
returns-else-has_ended-clause-good g c = (
  λ never. absurd cc,
  λ both.
      let fresh = not_latched c.self.inside.stage.section c.in_default.not-Latched in
      let ended : c.has_ended.result ≡ true = c.has_ended.ensures.1
      (ends_with_chain c.self.inside c.self.invariant c.args.self.now c.self.view_is fresh both.1) in
      sym c.if-has_ended.false ∙ ended,
)

pub returns-else-has_ended-clause-truncated : goal.returns-else-has_ended-clause-truncated
returns-else-has_ended-clause-truncated g c = λ fresh bad.
    let place : c.self.inside.count ≡ length c.args.self.now.bytes = place_seen c.self.inside c.self.invariant c.args.self.now c.self.view_is in
    λ i. Err (Truncated (place i))

pub returns-then-has_ended-clause-refused : goal.returns-then-has_ended-clause-refused
returns-then-has_ended-clause-refused g c = λ reason is.
    none_refused c.self.inside c.self.invariant c.args.self.now c.self.view_is (not_latched c.self.inside.stage.section c.in_default.not-Latched) reason is

pub returns-else-has_ended-clause-refused : goal.returns-else-has_ended-clause-refused
returns-else-has_ended-clause-refused g c = λ reason is.
    none_refused c.self.inside c.self.invariant c.args.self.now c.self.view_is (not_latched c.self.inside.stage.section c.in_default.not-Latched) reason is
