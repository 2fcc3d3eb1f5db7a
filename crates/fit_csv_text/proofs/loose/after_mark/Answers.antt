use Rattle.fit_csv_text.proofs.LooseTexts.{mark-stripped}
use Rattle.fit_csv_text.proofs.loose.after_mark.Goals as goal

pub returns : goal.returns
returns c = mark-stripped c.args.text.now c.strip_prefix.result c.strip_prefix.ensures.cases
