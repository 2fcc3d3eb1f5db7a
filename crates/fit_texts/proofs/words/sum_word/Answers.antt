use Rattle.fit_texts.proofs.words.sum_word.Goals as goal

pub returns-in-Zero : goal.returns-in-Zero
returns-in-Zero c = cc
