use Rattle.fit_numbers.proofs.Common.{arith}
use Rattle.fit_numbers.proofs.PutFacts.{four_digits}
use Rattle.fit_numbers.proofs.put.put_four.Goals as goal

pub tens-requires : goal.tens-requires
tens-requires c = omega (arith, c.requires.most)

pub ones-requires : goal.ones-requires
ones-requires c = omega (arith, c.requires.most)

pub tens-requires-2 : goal.tens-requires-2
tens-requires-2 c = omega arith

pub ones-requires-2 : goal.ones-requires-2
ones-requires-2 c = omega arith

pub returns-clause-ok : goal.returns-clause-ok
returns-clause-ok c = grind (arith, four_digits)
