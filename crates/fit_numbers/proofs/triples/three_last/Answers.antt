use Rattle.fit_numbers.proofs.TripleFacts.{three_digits_last}
use Rattle.fit_numbers.proofs.triples.three_last.Goals as goal

pub returns : goal.returns
returns c = rw (c.byte.ensures, c.byte-2.ensures, c.byte-3.ensures) (three_digits_last c.args.n)
