use Rattle.fit_record.proofs.definition.MessageDef.with_dev.Goals as goal

pub returns : goal.returns
returns g c = cc
