use Rattle.fit_record.proofs.learn.description_of.Goals as goal

pub description_in-requires-clause-global : goal.description_in-requires-clause-global
description_in-requires-clause-global g c = cc
