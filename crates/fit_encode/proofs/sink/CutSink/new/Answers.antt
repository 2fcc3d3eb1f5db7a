use Rattle.fit_encode.proofs.sink.CutSink.new.Goals as goal

pub returns : goal.returns
returns g c = cc
