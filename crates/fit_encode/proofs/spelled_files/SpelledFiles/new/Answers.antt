use Rattle.fit_encode.proofs.Common.{rules}
use Rattle.fit_encode.proofs.spelled_files.SpelledFiles.new.Goals as goal

pub invariant_of-result : goal.invariant_of-result
invariant_of-result c = search rules
