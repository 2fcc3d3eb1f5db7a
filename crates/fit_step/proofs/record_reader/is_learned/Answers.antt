use Rattle.fit_step.proofs.Common.{◌≡◌, ◌∙◌, sym, subst, DescribesNothing, learn}
use Rattle.fit_step.proofs.ReadBytes.{when_ok, when_err}
use Rattle.fit_step.proofs.record_reader.is_learned.Goals as goal

pub returns-clause-learned : goal.returns-clause-learned
returns-clause-learned g c = λ r is ok.
    let same : c.in-Some.record ≡ r = cc (is, c.in-Some.is) in
    subst (λ q. c.learn.new.self ≡ learn c.args.env.now q) same (when_ok c.learn.result c.learn.ensures.ok (sym c.is_ok.ensures.value ∙ ok))

pub returns-clause-same : goal.returns-clause-same
returns-clause-same g c = λ none. when_err c.learn.result c.learn.ensures.err (sym c.is_ok.ensures.value ∙ none)

pub returns-clause-free : goal.returns-clause-free
returns-clause-free g c = λ r is none.
    let same : c.in-Some.record ≡ r = cc (is, c.in-Some.is) in
    c.is_ok.ensures.value ∙ c.learn.ensures.free (subst (DescribesNothing c.args.env.now) (sym same) none)
