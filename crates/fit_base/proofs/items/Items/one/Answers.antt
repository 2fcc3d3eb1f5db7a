use Rattle.fit_base.proofs.items.Items.one.Goals as goal

pub returns : goal.returns
returns g c = cc
