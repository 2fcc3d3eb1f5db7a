use Rattle.fit_encode.proofs.Common.{◌++◌, ◌∙◌, List, ℕ, ap, arith, Sending}
use Rattle.fit_encode.proofs.Runs.{run_longer}
use Rattle.fit_encode.proofs.Sendings.{Spells-held, Breaks-more, Sends-err}
use Rattle.fit_encode.proofs.spelling.Spelling.bytes.Goals as goal

pub returns-in_err-make_room : goal.returns-in_err-make_room
returns-in_err-make_room g c =
    Sends-err _ _ _ _ _ c.from_residual.result c.from_residual.ensures.1 (Breaks-more c.args.bytes.now c.in_err-make_room.ensures.sends)

pub returns : goal.returns
returns g c =
    let view = c.self.view_is in
    let s = c.self.inside in
    let placed = c.place_bytes-self-inside in
    let longer = run_longer s.gone s.used placed.result s.run placed.new.bytes c.args.bytes.now c.self.invariant.0
    (omega (arith, c.self.told, c.self.invariant.1))
    c.place_bytes-self-inside.ensures.end placed.ensures.text in
    Spells-held _ c.args.bytes.now c.in_ok-make_room.ensures.sends
    (ap (λ (x : List ℕ). s.sum ++ x) longer.0 ∙ ap (λ (s : Sending). s.sent) view)
    (longer.1 ∙ ap (λ (s : Sending). s.held ++ c.args.bytes.now) view) (ap (λ (s : Sending). s.count) view)
