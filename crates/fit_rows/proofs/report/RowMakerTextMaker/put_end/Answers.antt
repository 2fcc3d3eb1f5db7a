use Rattle.std.proofs.Common.{rules}
use Rattle.fit_rows.proofs.report.RowMakerTextMaker.put_end.Goals as goal

pub returns : goal.returns
returns c = search rules
