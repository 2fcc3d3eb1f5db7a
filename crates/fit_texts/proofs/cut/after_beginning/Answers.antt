use Rattle.fit_texts.proofs.BeginFacts.{all_stripped, stripped}
use Rattle.fit_texts.proofs.cut.after_beginning.Goals as goal

pub returns-clause-some : goal.returns-clause-some
returns-clause-some c = stripped c.args.text.now c.args.beginning.now c.strip_prefix.result c.strip_prefix.ensures.cases

pub returns-clause-every : goal.returns-clause-every
returns-clause-every c = all_stripped c.args.text.now c.args.beginning.now c.strip_prefix.result c.strip_prefix.ensures.cases
