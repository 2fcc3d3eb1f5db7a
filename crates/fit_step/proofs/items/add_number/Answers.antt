use Rattle.fit_step.proofs.Common.{◌∙◌}
use Rattle.fit_step.proofs.TwoLists.{set_number, set_back}
use Rattle.std.proofs.lemmas.Result.{on_ok_weaker, on_err_weaker}
use Rattle.fit_step.proofs.items.add_number.Goals as goal

pub returns-clause-ok : goal.returns-clause-ok
returns-clause-ok g c =
    on_ok_weaker c.push-added.result
    (λ grown. c.from_vec.ensures ∙ set_number c.into_vec-items.result.items c.args.fields.now c.args.place c.args.number c.index_mut.result.now
    c.push-added.new.self (c.into_vec-items.ensures ∙ c.replace.ensures.value) c.index_mut.ensures.value grown)
    c.push-added.ensures.ok

pub returns-clause-err : goal.returns-clause-err
returns-clause-err g c =
    on_err_weaker c.push-added.result
    (λ kept. c.from_vec.ensures ∙ set_back c.into_vec-items.result.items c.args.fields.now c.args.place c.index_mut.result.now c.push-added.new.self
    (c.into_vec-items.ensures ∙ c.replace.ensures.value) c.index_mut.ensures.value kept)
    c.push-added.ensures.err
