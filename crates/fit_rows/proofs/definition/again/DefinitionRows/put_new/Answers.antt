use Rattle.fit_rows.proofs.definition.again.DefinitionRows.put_new.Goals as goal

pub returns-in-Ok : goal.returns-in-Ok
returns-in-Ok c = c.in_ok-put_definition.ensures

pub returns-else-has_seen : goal.returns-else-has_seen
returns-else-has_seen c = c.in_ok-put_definition.ensures

pub returns-in_default : goal.returns-in_default
returns-in_default c = c.in_ok-put_definition.ensures
