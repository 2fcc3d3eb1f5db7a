use Rattle.fit_step.proofs.Common.{◌∙◌, ◌++◌, ◌∷◌, [], sym, ap, no_items, arith}
use Rattle.fit_step.proofs.TwoLists.{one_more_field}
use Rattle.std.proofs.lemmas.Grind.{common_steps}
use Rattle.fit_step.proofs.header.empty_fields.Goals as goal

pub loop-place-preserved : goal.loop-place-preserved
loop-place-preserved g c =
    let shapes = c.args.layout.now in
    let k = c.loop-place.place in
    c.in_ok-push_empty.ensures ∙ ap (λ l. l ++ no_items c.shape-code.result ∷ []) c.loop-place.invariant
    ∙ sym (one_more_field shapes k c.shape-code.result c.shape-code.ensures)

pub returns-then-len-eq0-clause-made : goal.returns-then-len-eq0-clause-made
returns-then-len-eq0-clause-made g c = grind (arith, common_steps)

pub returns-clause-made : goal.returns-clause-made
returns-clause-made g c = grind (arith, common_steps)
