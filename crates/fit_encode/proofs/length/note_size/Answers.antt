use Rattle.fit_encode.proofs.Common.{rules}
use Rattle.fit_encode.proofs.length.note_size.Goals as goal

pub returns-then-d-lt16 : goal.returns-then-d-lt16
returns-then-d-lt16 g c = search rules
