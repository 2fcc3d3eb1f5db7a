use Rattle.std.proofs.Common.{rules}
use Rattle.fit_csv_text.proofs.reader.RowReader.ends_here.Goals as goal

pub returns-in-RowStart : goal.returns-in-RowStart
returns-in-RowStart c = search rules
