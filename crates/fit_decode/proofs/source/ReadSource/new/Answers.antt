use Rattle.fit_decode.proofs.source.ReadSource.new.Goals as goal

pub returns : goal.returns
returns g c = cc
