use Rattle.fit_decode.proofs.Common.{◌∙◌, sym}
use Rattle.fit_step.proofs.ReadBytes.{when_ok}
use Rattle.fit_decode.proofs.readers.piece.is_kept.Goals as goal

pub returns : goal.returns
returns g c = λ ok. when_ok c.push.result c.push.ensures.ok (sym c.is_ok.ensures.value ∙ ok)
