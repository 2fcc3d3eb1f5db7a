use Rattle.fit_texts.proofs.words.unit_text.Goals as goal

pub returns-in-Some : goal.returns-in-Some
returns-in-Some c = cc
