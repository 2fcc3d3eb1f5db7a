use Rattle.fit_record.proofs.Common.{sym, ap, ◌∙◌, None, option_map, get_or_from_slice_get}
use Rattle.std.proofs.lemmas.List.{get_or_past}
use Rattle.std.specs.Option.{option_copied}
use Rattle.fit_record.specs.Environment.{definition_at}
use Rattle.fit_record.proofs.WrongPlace.{found, not_found}
use Rattle.fit_record.proofs.environment.Env.definition.Goals as goal

pub returns-in_err-place : goal.returns-in_err-place
returns-in_err-place g c =
    let past = get_or_past c.self.inside.places c.args.local None (not_found c.self.inside.places c.args.local c.in_err-place.ensures.lookup.0) in
    ap option_copied c.from_residual.ensures ∙ sym (ap (option_map (λ p. p.definition)) past) ∙ ap (λ e. definition_at e c.args.local) c.self.view_is

pub returns-in-Some : goal.returns-in-Some
returns-in-Some g c =
    let at = get_or_from_slice_get c.self.inside.places c.args.local _ None
    (found c.self.inside.places c.args.local _ c.in_ok-place.ensures.lookup.0 c.in_ok-place.ensures.lookup.1) ∙ c.in-Some.is in
    sym (ap (option_map (λ p. p.definition)) at) ∙ ap (λ e. definition_at e c.args.local) c.self.view_is
