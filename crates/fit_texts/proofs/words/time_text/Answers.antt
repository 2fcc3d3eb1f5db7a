use Rattle.fit_texts.proofs.words.time_text.Goals as goal

pub returns-in-None-clause-text : goal.returns-in-None-clause-text
returns-in-None-clause-text c = cc
