use Rattle.fit_encode.proofs.Common.{[], append-nil}
use Rattle.fit_encode.proofs.Sendings.{Sends-on, Sends-err}
use Rattle.fit_encode.proofs.encoder.send.Goals as goal

pub returns-in_err-bytes-clause-sends : goal.returns-in_err-bytes-clause-sends
returns-in_err-bytes-clause-sends g c =
    Sends-err _ _ _ _ _ c.from_residual.result c.from_residual.ensures.1 c.in_err-bytes.ensures

pub returns-clause-sends : goal.returns-clause-sends
returns-clause-sends g c =
    Sends-on _ _ _ _ _ _ c.args.bytes.now [] c.args.bytes.now c.send.result (append-nil c.args.bytes.now) c.in_ok-bytes.ensures c.send.ensures.sends
