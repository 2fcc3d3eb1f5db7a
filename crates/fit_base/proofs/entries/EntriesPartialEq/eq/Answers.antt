use Rattle.fit_base.proofs.entries.EntriesPartialEq.eq.Goals as goal

pub returns : goal.returns
returns g c = cc
