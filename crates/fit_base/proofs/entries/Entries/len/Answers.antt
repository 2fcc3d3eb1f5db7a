use Rattle.fit_base.proofs.entries.Entries.len.Goals as goal

pub returns : goal.returns
returns g c = cc
