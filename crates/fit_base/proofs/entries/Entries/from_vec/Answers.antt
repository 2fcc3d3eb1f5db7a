use Rattle.fit_base.proofs.entries.Entries.from_vec.Goals as goal

pub returns : goal.returns
returns g c = cc
