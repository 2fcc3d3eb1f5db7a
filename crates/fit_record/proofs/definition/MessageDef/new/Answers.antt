use Rattle.fit_record.proofs.definition.MessageDef.new.Goals as goal

pub returns : goal.returns
returns g c = cc
