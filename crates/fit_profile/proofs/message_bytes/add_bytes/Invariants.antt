use Rattle.fit_profile.proofs.PassedMessages.{message_read}
use Rattle.fit_profile.proofs.message_bytes.add_bytes.Given as goal

abbrev pub ghost-add_from : goal.ghost-add_from
ghost-add_from a = message_read a._source.now.0.now a._source.now.1.now
