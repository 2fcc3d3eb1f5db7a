use Rattle.std.proofs.Common.{rules}
use Rattle.fit_numbers.proofs.write.write_units.Goals as goal

pub write_small-requires-clause-small : goal.write_small-requires-clause-small
write_small-requires-clause-small c = search rules
