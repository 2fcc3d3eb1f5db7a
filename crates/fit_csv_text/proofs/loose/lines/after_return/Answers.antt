use Rattle.fit_csv_text.proofs.PlainTexts.{after-both}
use Rattle.fit_csv_text.proofs.loose.lines.after_return.Goals as goal

pub returns : goal.returns
returns c = after-both c.args.text.now c.in_ok-rest.rest.now c.after_byte-2.result c.in_ok-rest.ensures c.after_byte-2.ensures
