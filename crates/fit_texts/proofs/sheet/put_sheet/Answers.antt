use Rattle.std.proofs.Common.{rules}
use Rattle.fit_texts.proofs.sheet.put_sheet.Goals as goal

pub returns : goal.returns
returns c = search rules
