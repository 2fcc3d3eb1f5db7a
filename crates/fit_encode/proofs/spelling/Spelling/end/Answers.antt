use Rattle.fit_encode.proofs.Common.{◌++◌, [], ◌∙◌, ap, append-nil, little_bytes, checksum}
use Rattle.fit_encode.proofs.Sendings.{Breaks-more, Breaks-on, Breaks-as, Spells-on, Spells-as, Sends-on, all_sent, Sends-err}
use Rattle.fit_encode.proofs.spelling.Spelling.end.Goals as goal

pub returns-in_err-flush-clause-sends : goal.returns-in_err-flush-clause-sends
returns-in_err-flush-clause-sends g c =
    Sends-err _ _ _ _ _ c.from_residual.result c.from_residual.ensures.1
    (Breaks-more (little_bytes 2 (checksum (c.args.self.now.sent ++ c.args.self.now.held))) c.in_err-flush.ensures.sends)

pub returns-in_err-bytes-clause-sends : goal.returns-in_err-bytes-clause-sends
returns-in_err-bytes-clause-sends g c =
    let flushed = c.in_ok-flush.ensures in
    let sum = c.sum_bytes-sum.ensures ∙ ap (little_bytes 2) (c.checksum.ensures ∙ ap checksum (all_sent flushed.sends flushed.empty)) in
    Sends-err _ _ _ _ _ c.from_residual-in_err-bytes.result c.from_residual-in_err-bytes.ensures.1
    (Breaks-on flushed.sends (Breaks-as sum c.in_err-bytes.ensures))

pub returns-clause-sends : goal.returns-clause-sends
returns-clause-sends g c =
    let flushed = c.in_ok-flush.ensures in
    let bytes = little_bytes 2 (checksum (c.args.self.now.sent ++ c.args.self.now.held)) in
    let sum = c.sum_bytes-sum.ensures ∙ ap (little_bytes 2) (c.checksum.ensures ∙ ap checksum (all_sent flushed.sends flushed.empty)) in
    Sends-on _ _ _ _ _ _ bytes [] bytes c.flush-2.result (append-nil bytes) (Spells-on flushed.sends (Spells-as sum c.in_ok-bytes.ensures))
    c.flush-2.ensures.sends
