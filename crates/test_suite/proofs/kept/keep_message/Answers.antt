use Rattle.std.proofs.Common.{[], ◌∷◌, ◌++◌, ◌∙◌, sym, ap, List}
use Rattle.std.proofs.lemmas.Result.{IfOk-at_ok}
use Rattle.std.specs.Global.{Global}
use Rattle.fit_record.specs.declared.message.Record.{Record}
use Rattle.fit_record.specs.Environment.{Environment, empty_environment, learn, learn_all}
use Rattle.test_suite.proofs.kept.keep_message.Goals as goal

pub push_message-requires-clause-known : goal.push_message-requires-clause-known
push_message-requires-clause-known g c =
    let r = c.args.definition.now in
    IfOk-at_ok _ c.expect-then-is_ok.ensures c.learn.ensures.ok ∙ ap (λ (e : Environment Global). learn e r) c.new-env.ensures
    ∙ sym (ap (λ (rs : List (Record Global)). learn_all empty_environment rs) (IfOk-at_ok _ c.expect.ensures c.push.ensures.ok
    ∙ ap (λ (rs : List (Record Global)). rs ++ (r ∷ [])) c.new-kept.ensures))
