use Rattle.fit_record.proofs.Common.{ap, ◌∙◌, option_and_then, slice_get}
use Rattle.fit_record.proofs.environment.Env.dev_code.Goals as goal

pub returns : goal.returns
returns g c =
    c.byte_at.ensures ∙ ap (λ bytes. slice_get bytes c.args.place) c.as_slice.ensures
    ∙ ap (option_and_then (λ p. slice_get p.dev_codes c.args.place)) c.in_ok-defined.ensures.place
