use Rattle.std.proofs.Common.{rules}
use Rattle.fit_frame.proofs.reader.may_follow.Goals as goal

pub returns-else-byte-eq0-2 : goal.returns-else-byte-eq0-2
returns-else-byte-eq0-2 c = search rules
