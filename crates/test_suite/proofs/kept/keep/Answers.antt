use Rattle.std.proofs.Common.{[], ◌∷◌, ◌∙◌, sym, ap, List}
use Rattle.std.specs.Global.{Global}
use Rattle.fit_record.specs.declared.message.Record.{Record}
use Rattle.fit_record.specs.Environment.{Environment, empty_environment, learn, learn_all}
use Rattle.fit_record.proofs.RecordLists.{learn_all-append}
use Rattle.test_suite.proofs.kept.keep.Goals as goal

pub loop-r-preserved : goal.loop-r-preserved
loop-r-preserved c =
    let r = c.r-item.result in
    c.in_ok-learn.ensures.ok ∙ ap (λ (e : Environment Global). learn e r) c.loop-r.invariant
    ∙ sym (ap (λ (rs : List (Record Global)). learn_all empty_environment rs) c.in_ok-push.ensures.ok
    ∙ learn_all-append empty_environment c.loop-r.kept (r ∷ []))
