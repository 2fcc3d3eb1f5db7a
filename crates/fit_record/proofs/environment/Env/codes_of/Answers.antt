use Rattle.fit_record.proofs.Common.{sym, ap, ◌∙◌, take, take_all, ◌++◌, [], ◌∷◌, map_more, dev_code, map}
use Rattle.std.proofs.lemmas.Result.{IfOk-from_err}
use Rattle.fit_record.proofs.environment.Env.codes_of.Goals as goal

pub loop-f-preserved : goal.loop-f-preserved
loop-f-preserved g c =
    let code = dev_code c.args.self.now in
    c.in_ok-push.ensures.ok ∙ ap (λ codes. codes ++ c.code_of.result ∷ []) c.loop-f.invariant
    ∙ ap (λ n. map code (take c.loop-f.f-index c.args.fields.now) ++ n ∷ []) c.code_of.ensures
    ∙ sym (map_more code c.args.fields.now c.loop-f.f-index (record { number = 0; size = 0; index = 0 }) c.loop-f-test.true)

pub code_of-requires : goal.code_of-requires
code_of-requires g c = assumption

pub returns-clause-codes : goal.returns-clause-codes
returns-clause-codes g c =
    c.loop-f.invariant ∙ ap (map (dev_code c.args.self.now)) (take_all c.loop-f.f-index c.args.fields.now c.loop-f-test.false)

pub returns-in_err-push-clause-codes : goal.returns-in_err-push-clause-codes
returns-in_err-push-clause-codes g c = IfOk-from_err c.from_residual.result _ c.from_residual.ensures.0
