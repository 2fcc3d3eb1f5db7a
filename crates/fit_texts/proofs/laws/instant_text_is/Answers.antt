use Rattle.fit_texts.proofs.InstantFacts.{instant-text}
use Rattle.fit_texts.proofs.laws.instant_text_is.Goals as goal

pub returns : goal.returns
returns c = instant-text
