use Rattle.fit_record.proofs.Common.{refl, ◌≡◌, sym, ◌∙◌, arith, subst, take_all, None, false, list_any_at, list_any_more, or_from, has_length, has_length_at}
use Rattle.fit_record.proofs.environment.Env.has_length.Goals as goal

pub loop-local-init : goal.loop-local-init
loop-local-init g c = (refl, λ h. absurd (omega (arith, h)))

pub has_length_at-requires : goal.has_length_at-requires
has_length_at-requires g c = assumption

pub returns-then-has_length_at-clause-value : goal.returns-then-has_length_at-clause-value
returns-then-has_length_at-clause-value g c =
    sym (list_any_at (λ o. has_length_at o c.args.n) c.args.self.now.places c.loop-local.local None (omega (arith, c.has_length_at.ensures.places))
    (sym c.has_length_at.ensures.value ∙ c.if-has_length_at.true))

pub returns-then-has_length_at-clause-places : goal.returns-then-has_length_at-clause-places
returns-then-has_length_at-clause-places g c = c.has_length_at.ensures.places

pub loop-local-preserved : goal.loop-local-preserved
loop-local-preserved g c = (
  list_any_more (λ o. has_length_at o c.args.n) c.args.self.now.places c.loop-local.local None (omega (arith, c.has_length_at.ensures.places))
      ∙ or_from _ _ c.loop-local.invariant.0 (sym c.has_length_at.ensures.value ∙ c.if-has_length_at.false),
  λ _. c.has_length_at.ensures.places,
)

pub returns-clause-places : goal.returns-clause-places
returns-clause-places g c = c.loop-local.invariant.1 (omega (arith, c.loop-local-test.false))

pub returns-clause-value : goal.returns-clause-value
returns-clause-value g c =
    let all = take_all c.loop-local.local c.args.self.now.places (omega (arith, returns-clause-places g c, c.loop-local-test.false)) in
    sym (subst (λ xs. has_length xs c.args.n ≡ false) all c.loop-local.invariant.0)
