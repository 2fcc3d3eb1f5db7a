use Rattle.fit_encode.proofs.sink.CutSinkSink.failed.Goals as goal

pub returns : goal.returns
returns g c = cc
