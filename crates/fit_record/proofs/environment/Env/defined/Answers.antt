use Rattle.fit_record.proofs.Common.{sym, ap, ◌∙◌, subst, None, IfSome, defined_at, IsSound, get_or_from_slice_get}
use Rattle.std.proofs.lemmas.List.{get_or_past}
use Rattle.std.specs.Option.{option_copied}
use Rattle.fit_record.proofs.KeptInPlaces.{sound_of}
use Rattle.fit_record.proofs.WrongPlace.{found, not_found}
use Rattle.fit_record.proofs.environment.Env.defined.Goals as goal

pub returns-clause-sound : goal.returns-clause-sound
returns-clause-sound g c = subst (λ o. IfSome o IsSound) (ap (λ e. defined_at e c.args.local) c.self.view_is) (sound_of _ _ (c.self.invariant c.args.local))

pub returns-in_err-place-clause-sound : goal.returns-in_err-place-clause-sound
returns-in_err-place-clause-sound g c =
    subst (λ o. IfSome o IsSound) (ap (λ e. defined_at e c.args.local) c.self.view_is) (sound_of _ _ (c.self.invariant c.args.local))

pub returns-in_err-place-clause-place : goal.returns-in_err-place-clause-place
returns-in_err-place-clause-place g c =
    let past = get_or_past c.self.inside.places c.args.local None (not_found c.self.inside.places c.args.local c.in_err-place.ensures.lookup.0) in
    ap option_copied c.from_residual.ensures ∙ sym past ∙ ap (λ e. defined_at e c.args.local) c.self.view_is

pub returns-clause-place : goal.returns-clause-place
returns-clause-place g c =
    let at = get_or_from_slice_get c.self.inside.places c.args.local _ None
    (found c.self.inside.places c.args.local _ c.in_ok-place.ensures.lookup.0 c.in_ok-place.ensures.lookup.1) in
    cc (sym at ∙ ap (λ e. defined_at e c.args.local) c.self.view_is)
