use Rattle.fit_decode.proofs.source.ReadSourceSource.failed.Goals as goal

pub returns : goal.returns
returns g c = cc
