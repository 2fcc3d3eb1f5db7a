use Rattle.fit_encode.proofs.Common.{rules}
use Rattle.fit_encode.proofs.spelled.make_room.Goals as goal

pub returns-then-size-le56-clause-room : goal.returns-then-size-le56-clause-room
returns-then-size-le56-clause-room c = search rules
