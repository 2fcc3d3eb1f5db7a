use Rattle.std.proofs.Common.{rules}
use Rattle.fit_texts.proofs.Common.{◌∙◌, length, sym, ap}
use Rattle.fit_texts.proofs.NamingFacts.{namings_long}
use Rattle.fit_texts.proofs.kept.message.KeptMessage.new.Goals as goal

pub kept_devs-requires-clause-namings : goal.kept_devs-requires-clause-namings
kept_devs-requires-clause-namings c =
    namings_long c.args.stream.now c.args.local c.args.defined.now c.requires.place ∙ sym (ap length c.dev_slice-dev.ensures)

pub returns : goal.returns
returns c = search rules
