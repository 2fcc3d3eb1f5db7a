use Rattle.fit_encode.proofs.Common.{rules}
use Rattle.fit_encode.proofs.spelled_files.SpelledFiles.has_room.Goals as goal

pub returns : goal.returns
returns c = search rules
