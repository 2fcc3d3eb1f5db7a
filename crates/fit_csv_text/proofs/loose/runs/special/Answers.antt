use Rattle.std.proofs.Common.{rules}
use Rattle.fit_csv_text.proofs.LooseTexts.{high-not-special}
use Rattle.fit_csv_text.proofs.loose.runs.special.Goals as goal

pub returns-then-b-gt44 : goal.returns-then-b-gt44
returns-then-b-gt44 c = high-not-special c.args.b c.if-b-gt44.true

pub returns-else-b-eq13 : goal.returns-else-b-eq13
returns-else-b-eq13 c = search rules
