use Rattle.fit_numbers.proofs.Common.{◌∙◌, ◌++◌, ap, arith, take, last_digits}
use Rattle.fit_numbers.proofs.PutFacts.{before_three}
use Rattle.fit_numbers.proofs.whole.write_thousands.Goals as goal

pub write_small-requires-clause-small : goal.write_small-requires-clause-small
write_small-requires-clause-small c = c.if-n-lt1000.true

pub write_small-requires-clause-room : goal.write_small-requires-clause-room
write_small-requires-clause-room c = omega (arith, c.requires.room)

pub returns-then-n-lt1000-clause-within : goal.returns-then-n-lt1000-clause-within
returns-then-n-lt1000-clause-within c = omega (arith, c.write_small.ensures.within)

pub write_small-at-requires-clause-small : goal.write_small-at-requires-clause-small
write_small-at-requires-clause-small c = omega (arith, c.requires.small)

pub write_small-at-requires-clause-room : goal.write_small-at-requires-clause-room
write_small-at-requires-clause-room c = omega (arith, c.requires.room)

pub write_triple-requires : goal.write_triple-requires
write_triple-requires c = omega (arith, c.requires.room, c.write_small-at.ensures.size, c.write_small-at.ensures.within)

pub returns-clause-size : goal.returns-clause-size
returns-clause-size c = c.write_triple.ensures.size ∙ c.write_small-at.ensures.size

pub returns-clause-within : goal.returns-clause-within
returns-clause-within c = omega (arith, c.write_triple.ensures.end, c.write_small-at.ensures.within)

pub returns-clause-text : goal.returns-clause-text
returns-clause-text c =
    c.write_triple.ensures.text ∙ ap (λ text. text ++ last_digits 3 c.args.n) c.write_small-at.ensures.text
    ∙ before_three c.args.n (take c.args.at c.args.bytes.now) c.if-n-lt1000.false (omega (arith, c.requires.small))
