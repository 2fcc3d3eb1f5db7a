use Rattle.fit_messages.proofs.message.told_bits.Goals as goal

pub returns : goal.returns
returns c = cc
