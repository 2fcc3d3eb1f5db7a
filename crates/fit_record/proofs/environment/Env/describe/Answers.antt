use Rattle.fit_record.proofs.Common.{ap, ◌∙◌, dev_key_cmp}
use Rattle.std.specs.BTreeMap.{insert_entry}
use Rattle.std.proofs.lemmas.Result.{IfOk-from_err}
use Rattle.fit_record.proofs.environment.Env.describe.Goals as goal

pub returns-clause-ok : goal.returns-clause-ok
returns-clause-ok g c =
    let described = c.in_ok-insert.ensures.entries ∙ ap (λ e. insert_entry dev_key_cmp e.described c.args.s.key c.args.s.code) c.self.view_is in
    λ i. record { places = (c.self.view_is i).places; described = described i }

pub returns-in_err-insert-clause-ok : goal.returns-in_err-insert-clause-ok
returns-in_err-insert-clause-ok g c = IfOk-from_err c.from_residual.result _ c.from_residual.ensures.0
