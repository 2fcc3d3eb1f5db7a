use Rattle.std.proofs.Common.{arith}
use Rattle.fit_messages.proofs.SheetFacts.{number_written}
use Rattle.fit_messages.proofs.sheet.write_low.Goals as goal

pub returns-clause-text : goal.returns-clause-text
returns-clause-text c =
    number_written c.args.width c.args.number c.args.at c.write_eight.result c.args.sheet.now c.write_eight.new.sheet c.eight_bytes-eight.result
    c.requires.width (omega arith) c.eight_bytes-eight.ensures c.write_eight.ensures.end c.write_eight.ensures.text
