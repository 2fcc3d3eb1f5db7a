-- What clauses see of a stream, by its lane.
use Rattle.std.specs.Prelude.{◌≡◌}
use Rattle.fit_stream.specs.declared.kind.Kind.TheVariants as kinds
use Rattle.fit_stream.specs.declared.stream.Lanes.{Lanes}
use Rattle.fit_stream.specs.declared.stream.Lanes.TheVariants as lanes
use Rattle.fit_stream.specs.Streams.{StreamNow, first_for}

abbrev pub stream_now : Lanes → StreamNow
stream_now (lanes.Check lane) = record { kind = kinds.Check; flow = lane.flow }
stream_now (lanes.Show lane) = record { kind = kinds.Show; flow = lane.flow }
stream_now (lanes.Table lane) = record { kind = kinds.Table; flow = lane.flow }
stream_now (lanes.Rows lane) = record { kind = kinds.Rows; flow = lane.flow }
stream_now (lanes.Messages lane) = record { kind = kinds.Messages; flow = lane.flow }

-- The lane begins with the first line of its kind.
abbrev pub BeginsSo : Lanes → Type 0
BeginsSo (lanes.Check lane) = lane.first ≡ first_for kinds.Check
BeginsSo (lanes.Show lane) = lane.first ≡ first_for kinds.Show
BeginsSo (lanes.Table lane) = lane.first ≡ first_for kinds.Table
BeginsSo (lanes.Rows lane) = lane.first ≡ first_for kinds.Rows
BeginsSo (lanes.Messages lane) = lane.first ≡ first_for kinds.Messages
