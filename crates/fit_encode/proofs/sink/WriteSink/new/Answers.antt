use Rattle.fit_encode.proofs.sink.WriteSink.new.Goals as goal

pub returns : goal.returns
returns g c = cc
