use Rattle.fit_encode.proofs.Common.{arith}
use Rattle.fit_encode.proofs.Places.{number_of_eight}
use Rattle.fit_encode.proofs.place.place_little.Goals as goal

pub returns-clause-text : goal.returns-clause-text
returns-clause-text c =
    number_of_eight c.args.width c.args.bits c.args.at c.place_bytes.result c.args.bytes.now c.place_bytes.new.bytes c.eight_bytes-source.result
    c.requires.width (omega arith) c.eight_bytes-source.ensures c.place_bytes.ensures.end c.place_bytes.ensures.text
