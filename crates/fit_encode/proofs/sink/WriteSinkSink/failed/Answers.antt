use Rattle.fit_encode.proofs.sink.WriteSinkSink.failed.Goals as goal

pub returns : goal.returns
returns g c = cc
