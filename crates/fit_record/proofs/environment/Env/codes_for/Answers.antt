use Rattle.fit_record.proofs.Common.{◌≡◌, sym, ap, ◌∙◌, subst, IfOk, map, dev_code, dev_defs}
use Rattle.fit_record.proofs.environment.Env.codes_for.Goals as goal

pub codes_of-requires : goal.codes_of-requires
codes_of-requires g c = assumption

pub returns-in-Some-clause-codes : goal.returns-in-Some-clause-codes
returns-in-Some-clause-codes g c =
    let defs = ap dev_defs c.in-Some.is in
    subst (λ fields. IfOk c.codes_of.result (λ codes. codes ≡ map (dev_code c.args.self.now) fields)) (c.as_slice.ensures ∙ sym defs) c.codes_of.ensures.codes

pub returns-in-Some-clause-free : goal.returns-in-Some-clause-free
returns-in-Some-clause-free g c = λ none. c.codes_of.ensures.free (c.as_slice.ensures ∙ sym (ap dev_defs c.in-Some.is) ∙ none)
