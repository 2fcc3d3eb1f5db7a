use Rattle.fit_base.proofs.Common.{rules, refl}
use Rattle.fit_base.specs.declared.code.TheConstants.{WIDTHS}
use Rattle.fit_base.proofs.Widths.{are_widths, width_at}
use Rattle.fit_base.proofs.code.Code.width.Goals as goal

pub returns : goal.returns
unfolding are_widths
returns c = width_at WIDTHS c.args.self.0 refl (search rules)
