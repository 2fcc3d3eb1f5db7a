use Rattle.fit_decode.proofs.source.CutSourceSource.failed.Goals as goal

pub returns : goal.returns
returns c = cc
