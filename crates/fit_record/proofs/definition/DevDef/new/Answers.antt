use Rattle.fit_record.proofs.definition.DevDef.new.Goals as goal

pub returns : goal.returns
returns c = cc
