use Rattle.fit_base.proofs.entries.Entries.as_slice.Goals as goal

pub returns : goal.returns
returns g c = cc
