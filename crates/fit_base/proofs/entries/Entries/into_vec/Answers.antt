use Rattle.fit_base.proofs.entries.Entries.into_vec.Goals as goal

pub returns : goal.returns
returns g c = cc
