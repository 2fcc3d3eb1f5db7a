use Rattle.fit_encode.proofs.Common.{rules}
use Rattle.fit_encode.proofs.spelled_files.write_spelled.Goals as goal

pub returns-in-Some-clause-refused : goal.returns-in-Some-clause-refused
returns-in-Some-clause-refused g c = search rules

pub returns-in-Ok-clause-ok : goal.returns-in-Ok-clause-ok
returns-in-Ok-clause-ok g c = search rules

pub returns-in-Err-clause-written_of_good : goal.returns-in-Err-clause-written_of_good
returns-in-Err-clause-written_of_good g c = search rules
