use Rattle.fit_messages.proofs.definition.dev_column.Goals as goal

pub returns-clause-same : goal.returns-clause-same
returns-clause-same c = cc
