use Rattle.std.proofs.Common.{arith, rules, sym, true}
use Rattle.std.proofs.lemmas.Bool.{ltb-false}
use Rattle.std.proofs.lemmas.Option.{slice_get_within}
use Rattle.fit_text_report.proofs.found.Findings.is_current.Goals as goal

pub returns-in-None : goal.returns-in-None
returns-in-None g c = (
  λ yes. search rules,
  λ is. absurd (omega (arith, ltb-false _ _ (sym c.in-None.ensures.lookup.0), slice_get_within c.args.self.now.current c.args.local true is)),
)
