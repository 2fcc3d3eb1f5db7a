use Rattle.fit_texts.proofs.words.header_time.Goals as goal

pub returns-in-Some : goal.returns-in-Some
returns-in-Some c = cc
