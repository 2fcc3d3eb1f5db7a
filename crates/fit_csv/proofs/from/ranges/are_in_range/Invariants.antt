use Rattle.fit_csv.proofs.Common.{FieldDefInRange}
use Rattle.std.proofs.Common.{take}
use Rattle.std.specs.List.{All}
use Rattle.fit_csv.proofs.from.ranges.are_in_range.Given as goal

abbrev pub invariant-loop-field : goal.invariant-loop-field
invariant-loop-field l = All FieldDefInRange (take l.field-index l.fields)
