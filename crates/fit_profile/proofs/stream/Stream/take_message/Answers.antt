use Rattle.fit_profile.proofs.Common.{rules}
use Rattle.fit_profile.proofs.stream.Stream.take_message.Goals as goal

pub returns-in-Some-clause-err : goal.returns-in-Some-clause-err
returns-in-Some-clause-err c = search rules

pub returns-in-Some-clause-free : goal.returns-in-Some-clause-free
returns-in-Some-clause-free c = search rules
