use Rattle.std.proofs.Common.{rules}
use Rattle.fit_texts.proofs.stamp.Stamp.write.Goals as goal

pub write_by-requires-clause-room : goal.write_by-requires-clause-room
write_by-requires-clause-room c = search rules
