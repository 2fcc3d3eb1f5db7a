use Rattle.fit_profile.proofs.Common.{rules}
use Rattle.fit_profile.proofs.stream.Stream.dev_texts.Goals as goal

pub returns-in-Some-clause-name : goal.returns-in-Some-clause-name
returns-in-Some-clause-name c = search rules

pub returns-in-Some-clause-unit : goal.returns-in-Some-clause-unit
returns-in-Some-clause-unit c = search rules
