-- What holds of the stream and of the writer that C has.
use Rattle.std.specs.Thread.{IsSend}
use Rattle.fit_c.specs.contracts.handle.FitStream.{the_row}
use Rattle.fit_c.specs.contracts.writer_handle.FitWriter.{the_row as the_writer}

-- Nothing that it owns is bound to a thread.
abbrev pub StreamsMove : Type 0
StreamsMove = IsSend the_row

abbrev pub WritersMove : Type 0
WritersMove = IsSend the_writer
