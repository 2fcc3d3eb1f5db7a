use Rattle.fit_record.proofs.definition.FieldDef.new.Goals as goal

pub returns : goal.returns
returns c = cc
