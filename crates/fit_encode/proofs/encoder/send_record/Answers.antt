use Rattle.fit_encode.proofs.Common.{[], append-nil, bytes_in_order}
use Rattle.fit_encode.proofs.Sendings.{Sends-on, Sends-err}
use Rattle.fit_encode.proofs.encoder.send_record.Goals as goal

pub returns-in_err-spell_record-clause-sends : goal.returns-in_err-spell_record-clause-sends
returns-in_err-spell_record-clause-sends g c =
    Sends-err _ _ _ _ _ c.from_residual.result c.from_residual.ensures.1 c.in_err-spell_record.ensures

pub returns-clause-sends : goal.returns-clause-sends
returns-clause-sends g c =
    let bytes = bytes_in_order c.args.order c.args.r.now in
    Sends-on _ _ _ _ _ _ bytes [] bytes c.send.result (append-nil bytes) c.in_ok-spell_record.ensures c.send.ensures.sends
