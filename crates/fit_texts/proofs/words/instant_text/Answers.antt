use Rattle.fit_texts.proofs.Common.{arith, instant_text}
use Rattle.fit_texts.proofs.InstantFacts.{instant-text}
use Rattle.fit_texts.proofs.PlainInstants.{plain-instant}
use Rattle.fit_texts.proofs.words.instant_text.Goals as goal

pub returns-clause-text : goal.returns-clause-text
returns-clause-text c = c.instant_has_one_text.ensures c.args.time c.utc_text.result.bytes (instant_text c.args.time) c.utc_text.ensures
    (instant-text c.args.time (omega arith))

pub returns-clause-plain : goal.returns-clause-plain
returns-clause-plain c =
    let text = c.instant_has_one_text.ensures c.args.time c.utc_text.result.bytes (instant_text c.args.time) c.utc_text.ensures
    (instant-text c.args.time (omega arith)) in
    rw text (plain-instant c.args.time (omega arith))
