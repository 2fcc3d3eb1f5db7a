use Rattle.fit_encode.proofs.Common.{◌++◌, ◌∙◌, List, ℕ, sym, ap, ap₂, arith, Sending}
use Rattle.std.proofs.lemmas.Slice.{between_is}
use Rattle.fit_encode.proofs.Runs.{Spells-sent, none_left, run_parts}
use Rattle.fit_encode.proofs.Sendings.{Breaks-flush}
use Rattle.fit_encode.proofs.spelling.Spelling.send.Goals as goal

pub returns-in-Err-clause-sends : goal.returns-in-Err-clause-sends
returns-in-Err-clause-sends g c =
    let view = c.self.view_is in
    let s = c.self.inside in
    let count = ap (λ (s : Sending). s.count) view in
    Breaks-flush _ _ c.args.self.now _ c.in-Err.written c.saturating_add.result (between_is s.run s.gone s.used ∙ ap (λ (s : Sending). s.held) view)
    c.in-Err.ensures.part c.in-Err.ensures.err (λ fits. omega (arith, count, c.saturating_add.ensures)) c.in-Err.ensures.failed

pub returns-clause-sends : goal.returns-clause-sends
returns-clause-sends g c =
    let view = c.self.view_is in
    let s = c.self.inside in
    let held = between_is s.run s.gone s.used in
    let count = ap (λ (s : Sending). s.count) view in
    let put = c.in_default.ensures in
    Spells-sent _ _ (held ∙ ap (λ (s : Sending). s.held) view) put.ok
    (run_parts s.gone s.used s.sum s.run c.self.invariant.0 ∙ ap₂ (λ (x y : List ℕ). x ++ y) (ap (λ (s : Sending). s.sent) view) (sym held))
    (none_left s.used s.run) (λ fits. omega (arith, count, c.saturating_add-self-inside.ensures)) put.works (λ none. ap g.K.Sink.has_failed (put.empty none).1)
