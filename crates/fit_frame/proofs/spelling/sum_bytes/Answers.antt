use Rattle.fit_frame.proofs.spelling.sum_bytes.Goals as goal

pub returns : goal.returns
returns c = cc
