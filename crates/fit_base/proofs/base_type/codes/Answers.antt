use Rattle.fit_base.proofs.base_type.codes.Goals as goal

pub returns : goal.returns
returns c = cc
