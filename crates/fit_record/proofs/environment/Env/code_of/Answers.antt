use Rattle.fit_record.proofs.Common.{ap, ◌∙◌, unwrap_or, dev_code}
use Rattle.fit_record.proofs.environment.Env.code_of.Goals as goal

pub returns-in-Some : goal.returns-in-Some
returns-in-Some g c = ap (λ o. unwrap_or o 0x0D) c.in-Some.ensures.value ∙ ap (λ e. dev_code e c.args.f) c.self.view_is

pub returns-in-None : goal.returns-in-None
returns-in-None g c = ap (λ o. unwrap_or o 0x0D) c.in-None.ensures.value ∙ ap (λ e. dev_code e c.args.f) c.self.view_is
