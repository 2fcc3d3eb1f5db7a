use Rattle.fit_history.proofs.History.add.Given as goal

abbrev pub ghost-add_from : goal.ghost-add_from
ghost-add_from g a = a._source.now
