use Rattle.fit_encode.proofs.Common.{ap, arith, length, take}
use Rattle.fit_encode.proofs.FilesPut.{second-stops}
use Rattle.fit_encode.proofs.Sendings.{Appends-as}
use Rattle.fit_encode.proofs.chain_bytes.ChainBytes.put.Goals as goal

pub returns-in-Err-clause-err : goal.returns-in-Err-clause-err
returns-in-Err-clause-err g c =
    second-stops _ _ _ c.self.inside.front.items c.self.inside.rest.items c.args.self.now c.len.result c.in-Err.written c.self.view_is
    (omega (arith, c.len.ensures))
    (Appends-as _ _ c.as_slice.ensures.value c.in_ok-put_all.ensures.ok)
    (Appends-as _ _ (ap (take c.in-Err.written) c.as_slice-2.ensures.value) c.in-Err.ensures.part)
    (omega (arith, c.in-Err.ensures.err, ap length c.as_slice-2.ensures.value)) c.in-Err.ensures.failed
