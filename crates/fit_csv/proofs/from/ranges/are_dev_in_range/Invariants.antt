use Rattle.fit_csv.proofs.Common.{DevDefInRange}
use Rattle.std.proofs.Common.{take}
use Rattle.std.specs.List.{All}
use Rattle.fit_csv.proofs.from.ranges.are_dev_in_range.Given as goal

abbrev pub invariant-loop-field : goal.invariant-loop-field
invariant-loop-field l = All DevDefInRange (take l.field-index l.fields)
