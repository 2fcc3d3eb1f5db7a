use Rattle.fit_texts.proofs.words.order_word.Goals as goal

pub returns-in-Big : goal.returns-in-Big
returns-in-Big c = cc
