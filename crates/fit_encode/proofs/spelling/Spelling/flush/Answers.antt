use Rattle.fit_encode.proofs.Common.{[], ◌∙◌, sym, ap, append-nil, Sending}
use Rattle.fit_encode.proofs.Sendings.{Spells-held}
use Rattle.fit_encode.proofs.spelling.Spelling.flush.Goals as goal

pub returns-clause-sends : goal.returns-clause-sends
returns-clause-sends g c =
    let same = c.sum_run.ensures in
    Spells-held c.sum_run.new.self [] c.in_ok-send.ensures.sends (ap (λ (s : Sending). s.sent) same)
    (ap (λ (s : Sending). s.held) same ∙ sym (append-nil c.send.new.self.held)) (ap (λ (s : Sending). s.count) same)
