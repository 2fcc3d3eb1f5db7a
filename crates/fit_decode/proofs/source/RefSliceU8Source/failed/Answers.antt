use Rattle.fit_decode.proofs.source.RefSliceU8Source.failed.Goals as goal

pub returns : goal.returns
returns c = cc
