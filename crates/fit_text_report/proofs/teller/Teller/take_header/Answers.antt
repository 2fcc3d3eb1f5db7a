use Rattle.std.proofs.Common.{rules}
use Rattle.fit_text_report.proofs.Common.{◌^◌, sym, ap, arith, subst, KeptEvents}
use Rattle.std.proofs.Common.{◌<◌}
use Rattle.fit_text_report.proofs.teller.Teller.take_header.Goals as goal

pub put_header-requires : goal.put_header-requires
put_header-requires g c = subst (λ files. files < 2 ^ 60) (sym (ap (λ (k : KeptEvents). k.files) c.self.view_is)) c.requires

pub overflow_add-self : goal.overflow_add-self
overflow_add-self g c = omega (arith, ap (λ (k : KeptEvents). k.files) c.self.view_is, c.requires)

pub returns-clause-heard : goal.returns-clause-heard
returns-clause-heard g c = search rules
