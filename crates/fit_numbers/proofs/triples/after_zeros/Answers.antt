use Rattle.fit_numbers.proofs.TripleFacts.{shown}
use Rattle.fit_numbers.proofs.triples.after_zeros.Goals as goal

pub returns : goal.returns
returns c = rw (c.byte.ensures, c.byte-2.ensures, c.byte-3.ensures) (shown c.args.n c.args.zeros c.byte-4.result c.requires.small c.requires.zeros)
