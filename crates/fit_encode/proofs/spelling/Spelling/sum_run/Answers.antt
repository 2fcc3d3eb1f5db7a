use Rattle.fit_encode.proofs.Common.{◌∙◌, sym, ap, arith, Sending}
use Rattle.fit_encode.proofs.Runs.{all_gone, same_sending}
use Rattle.fit_encode.proofs.spelling.Spelling.sum_run.Goals as goal

pub returns : goal.returns
returns c =
    let view = c.self.view_is in
    let s = c.self.inside in
    let none = ap (λ (s : Sending). s.held) view ∙ c.requires in
    rw c.add_all.ensures (same_sending
    (all_gone s.gone s.used s.sum s.run c.self.invariant.0 (omega (arith, c.self.told, c.self.invariant.1)) none ∙ ap (λ (s : Sending). s.sent) view)
    (sym c.requires) (ap (λ (s : Sending). s.count) view))
