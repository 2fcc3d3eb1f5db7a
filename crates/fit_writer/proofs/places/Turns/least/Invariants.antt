use Rattle.std.proofs.Common.{◌<◌}
use Rattle.fit_writer.proofs.places.Turns.least.Given as goal

abbrev pub invariant-loop-local : goal.invariant-loop-local
invariant-loop-local l = l.least < l.limit
