use Rattle.fit_stream.proofs.RowTexts.{streams_of_rows}
use Rattle.fit_stream.proofs.laws.streams_of_rows.Goals as goal

pub returns : goal.returns
returns c = streams_of_rows
