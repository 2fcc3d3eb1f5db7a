use Rattle.fit_step.proofs.Common.{◌≡◌, ap, ◌∙◌, subst, sym, refl, Define, learn}
use Rattle.fit_step.proofs.ReadDefinitions.{fields_are}
use Rattle.fit_step.specs.inner.Definitions.{definition_of}
use Rattle.std.proofs.lemmas.Result.{err_from_is_err_and}
use Rattle.fit_step.proofs.whole.learn_copy.Goals as goal

pub is_known-requires : goal.is_known-requires
is_known-requires g c = assumption

pub returns-then-is_known : goal.returns-then-is_known
returns-then-is_known g c =
    let (fields, are, stays) = c.is_known.ensures c.if-is_known.true in
    let same = ap (definition_of c.args.front) (fields_are c.args.front c.args.entries.now fields c.args.definition.now.fields are c.requires.fields)
    ∙ sym c.requires.is in
    record { ok = sym (subst (λ d. learn c.args.env.now (Define d) ≡ c.args.env.now) same stays); err = tt }

pub returns-in_err-fields : goal.returns-in_err-fields
returns-in_err-fields g c =
    let p = err_from_is_err_and c.from_residual.result c.from_residual.ensures.1 in rw p.1 (record { ok = tt; err = refl })

pub returns-clause-err : goal.returns-clause-err
returns-clause-err g c = c.define.ensures.err
