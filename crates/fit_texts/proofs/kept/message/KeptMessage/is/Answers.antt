use Rattle.std.proofs.Common.{rules}
use Rattle.fit_texts.proofs.Common.{◌∙◌, length, sym, ap}
use Rattle.fit_texts.proofs.NamingFacts.{namings_long}
use Rattle.fit_texts.proofs.kept.message.KeptMessage.is.Goals as goal

pub are_devs-requires-clause-namings : goal.are_devs-requires-clause-namings
are_devs-requires-clause-namings c =
    namings_long c.args.stream.now c.args.local c.args.defined.now c.requires.place ∙ sym (ap length c.dev_slice-dev.ensures)

pub returns-then-is : goal.returns-then-is
returns-then-is c = search rules
