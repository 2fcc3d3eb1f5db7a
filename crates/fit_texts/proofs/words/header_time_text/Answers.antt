use Rattle.fit_texts.proofs.words.header_time_text.Goals as goal

pub returns : goal.returns
returns c = cc
