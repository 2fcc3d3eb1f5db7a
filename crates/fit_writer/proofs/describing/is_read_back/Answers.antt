use Rattle.std.proofs.Common.{◌∙◌, sym}
use Rattle.fit_writer.proofs.TextsRead.{not_shown, not_valid, reads_back, too_long_text}
use Rattle.fit_writer.proofs.describing.is_read_back.Goals as goal

pub returns-then-text-ge255-clause-no : goal.returns-then-text-ge255-clause-no
returns-then-text-ge255-clause-no c = λ _. too_long_text c.args.text.now c.if-text-ge255.true

pub returns-then-not-is_shown-clause-no : goal.returns-then-not-is_shown-clause-no
returns-then-not-is_shown-clause-no c = λ _. not_shown c.args.text.now (sym c.is_shown.ensures ∙ c.if-not-is_shown.true)

pub returns-in-Ok-clause-yes : goal.returns-in-Ok-clause-yes
returns-in-Ok-clause-yes c = λ _.
    reads_back c.args.text.now c.if-text-ge255.false (sym c.is_shown.ensures ∙ c.if-not-is_shown.false) c.in-Ok.ensures.cases.1

pub returns-in-Err-clause-no : goal.returns-in-Err-clause-no
returns-in-Err-clause-no c = λ _. not_valid c.args.text.now c.in-Err.ensures.cases.0
