use Rattle.fit_record.proofs.definition.FieldDef.one.Goals as goal

pub returns : goal.returns
returns c = cc
