use Rattle.fit_csv_text.proofs.LooseTexts.{high-no-mark}
use Rattle.fit_csv_text.proofs.loose.runs.mark.Goals as goal

pub returns-then-b-gt34 : goal.returns-then-b-gt34
returns-then-b-gt34 c = high-no-mark c.args.b c.if-b-gt34.true
