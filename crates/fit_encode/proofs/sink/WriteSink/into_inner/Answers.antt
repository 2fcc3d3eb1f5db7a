use Rattle.fit_encode.proofs.sink.WriteSink.into_inner.Goals as goal

pub returns : goal.returns
returns g c = cc
