use Rattle.std.proofs.Common.{rules}
use Rattle.fit_csv_text.proofs.loose.opens_bare.Goals as goal

pub returns-in-RowStart : goal.returns-in-RowStart
returns-in-RowStart c = search rules
