use Rattle.std.proofs.Common.{rules}
use Rattle.fit_texts.proofs.SeveralNumbers.{lone_fills}
use Rattle.fit_texts.proofs.several.field_form.Goals as goal

pub returns-in-Some-clause-whole : goal.returns-in-Some-clause-whole
returns-in-Some-clause-whole c = lone_fills c.args.size c.in-Some.form c.in-Some.ensures.small c.in-Some.ensures.width

pub returns-in-None-clause-whole : goal.returns-in-None-clause-whole
returns-in-None-clause-whole c = search rules
