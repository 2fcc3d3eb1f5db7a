use Rattle.fit_record.proofs.Common.{sym, subst, DefinitionFits, refl, arith}
use Rattle.std.proofs.lemmas.Result.{IfOk-from_err, MatchResult-from_err}
use Rattle.std.proofs.lemmas.Grind.{common_steps}
use Rattle.fit_record.proofs.environment.Env.learn_definition.Goals as goal

pub define-requires : goal.define-requires
define-requires g c = (assumption, subst DefinitionFits (sym c.in_ok-copy.ensures) c.requires)

pub returns-in_err-copy-clause-ok : goal.returns-in_err-copy-clause-ok
returns-in_err-copy-clause-ok g c = IfOk-from_err c.from_residual.result _ c.from_residual.ensures.0

pub returns-in_err-copy-clause-err : goal.returns-in_err-copy-clause-err
returns-in_err-copy-clause-err g c = MatchResult-from_err c.from_residual.result _ _ c.from_residual.ensures.0 (λ _. refl)

pub holds-requires : goal.holds-requires
holds-requires g c = assumption

pub returns-then-holds-clause-ok : goal.returns-then-holds-clause-ok
returns-then-holds-clause-ok g c = grind (arith, common_steps)
