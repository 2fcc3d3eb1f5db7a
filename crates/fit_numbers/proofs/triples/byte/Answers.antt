use Rattle.fit_numbers.proofs.TripleFacts.{byte_at}
use Rattle.fit_numbers.proofs.triples.byte.Goals as goal

pub returns : goal.returns
returns c = byte_at c.args.place c.requires
