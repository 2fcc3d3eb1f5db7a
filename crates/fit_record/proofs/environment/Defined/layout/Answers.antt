use Rattle.fit_record.proofs.Common.{length, ap, ◌∙◌, length-map}
use Rattle.fit_record.proofs.environment.Defined.layout.Goals as goal

pub returns-clause-shapes : goal.returns-clause-shapes
returns-clause-shapes g c = cc

pub returns-clause-count : goal.returns-clause-count
returns-clause-count g c = ap length (returns-clause-shapes g c) ∙ length-map c.args.self.now.definition.fields (λ f. (f.code, f.size))
