use Rattle.fit_base.proofs.entries.Entries.is_empty.Goals as goal

pub returns : goal.returns
returns g c = cc
