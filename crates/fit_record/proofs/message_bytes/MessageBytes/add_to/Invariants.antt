use Rattle.fit_record.specs.MessageBytes.{message_in}
use Rattle.fit_record.specs.declared.message.Record.TheVariants.{Values as Data}
use Rattle.fit_record.proofs.message_bytes.MessageBytes.add_to.Given as goal

abbrev pub ghost-add_from : goal.ghost-add_from
ghost-add_from a = Data (message_in a._source.now)
