use Rattle.std.proofs.Common.{◌≡◌, length}
use Rattle.fit_profile.specs.Described.{before_closing_zeros}
use Rattle.fit_cells.proofs.shown.before_zeros.Given as goal

abbrev pub invariant-zeros : goal.invariant-zeros
invariant-zeros l = before_closing_zeros l.rest ≡ before_closing_zeros l.bytes

abbrev pub decreases-zeros : goal.decreases-zeros
decreases-zeros l = length l.rest
