use Rattle.fit_step.proofs.Common.{[], subst, TakesNone}
use Rattle.fit_step.proofs.InPlace.{not_defining}
use Rattle.std.proofs.lemmas.Result.{on_err_weaker}
use Rattle.fit_step.proofs.one_byte.in_definition.Goals as goal

pub unreachable-requires : goal.unreachable-requires
unreachable-requires g c = not_defining c.args.phase.now c.args.definition.now c.requires.defines c.in_default.not-Definition

pub returns : goal.returns
returns g c =
    let is = c.in-Definition.is in
    let told = c.definition_byte.ensures in
    record {
      made = rw is told.made;
      err = on_err_weaker c.definition_byte.result (λ same. same.2) told.err;
      free = λ none. told.free (subst (λ k. TakesNone c.args.env.now k [] c.args.byte) is none);
    }
