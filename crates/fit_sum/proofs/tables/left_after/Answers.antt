use Rattle.fit_sum.proofs.Common.{rules}
use Rattle.fit_sum.proofs.TableEntries.{left_after}
use Rattle.fit_sum.proofs.tables.left_after.Goals as goal

pub returns : goal.returns
returns c = left_after c.args.count c.args.byte c.requires.some c.requires.few (search rules)
