use Rattle.fit_encode.proofs.Common.{◌∙◌, ◌++◌, List, ℕ, ap}
use Rattle.fit_encode.specs.inner.Kept.{with_sum}
use Rattle.fit_encode.proofs.Kept.{kept-bytes}
use Rattle.fit_encode.proofs.spelled.SpelledRecords.put_after.Goals as goal

pub returns-clause-ok : goal.returns-clause-ok
returns-clause-ok c =
    let s = c.self.inside in
    c.in_ok-push.ensures.ok
    ∙ ap (λ (section : List ℕ). c.args.bytes.now ++ with_sum (c.args.head.now ++ section))
    (kept-bytes s.bytes.items s.count s.too_long s.records.items c.args.self.now c.self.invariant c.self.view_is c.requires.short)
