use Rattle.fit_base.proofs.Common.{rules}
use Rattle.fit_base.proofs.items.has_shape.Goals as goal

pub returns-in-Some : goal.returns-in-Some
returns-in-Some g c = search rules

pub has_width-requires : goal.has_width-requires
has_width-requires g c = search rules
