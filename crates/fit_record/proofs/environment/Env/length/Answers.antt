use Rattle.fit_record.proofs.Common.{length, ltb-true, get_or, sym, ap, ◌∙◌, subst}
use Rattle.fit_record.proofs.Common.{Some, None, option_map, get_or_from_slice_get, defined_at, MayBeKept, body_length, arith}
use Rattle.fit_record.proofs.Common.{message_size}
use Rattle.fit_record.proofs.WrongPlace.{found, not_found}
use Rattle.fit_record.proofs.MessageSizes.{kept_size}
use Rattle.std.proofs.lemmas.List.{get_or_past}
use Rattle.fit_record.proofs.environment.Env.length.Goals as goal

pub returns-in-Some-clause-length : goal.returns-in-Some-clause-length
returns-in-Some-clause-length g c =
    let at = get_or_from_slice_get c.self.inside.places c.args.local _ None
    (found c.self.inside.places c.args.local _ c.in_ok-place.ensures.lookup.0 c.in_ok-place.ensures.lookup.1) ∙ c.in-Some.is in
    let kept = subst (λ p. MayBeKept p (get_or c.self.inside.lengths c.args.local 0)) at (c.self.invariant c.args.local) in
    ap Some kept.total ∙ ap (option_map (λ p. body_length p.definition)) (sym at ∙ ap (λ e. defined_at e c.args.local) c.self.view_is)

pub returns-in-Some-clause-small : goal.returns-in-Some-clause-small
returns-in-Some-clause-small g c =
    let at = get_or_from_slice_get c.self.inside.places c.args.local _ None
    (found c.self.inside.places c.args.local _ c.in_ok-place.ensures.lookup.0 c.in_ok-place.ensures.lookup.1) ∙ c.in-Some.is in
    (subst (λ p. MayBeKept p (get_or c.self.inside.lengths c.args.local 0)) at (c.self.invariant c.args.local)).small

pub returns-in-Some-clause-size : goal.returns-in-Some-clause-size
returns-in-Some-clause-size g c =
    let at = get_or_from_slice_get c.self.inside.places c.args.local _ None
    (found c.self.inside.places c.args.local _ c.in_ok-place.ensures.lookup.0 c.in_ok-place.ensures.lookup.1) ∙ c.in-Some.is in
    kept_size _ _ _ at (c.self.invariant c.args.local) ∙ ap (λ e. option_map message_size (defined_at e c.args.local)) c.self.view_is

pub returns-in-Some-clause-places : goal.returns-in-Some-clause-places
returns-in-Some-clause-places g c = rw (← c.self.view_is) assumption

pub returns-in-None-clause-places : goal.returns-in-None-clause-places
returns-in-None-clause-places g c = rw (← c.self.view_is) assumption

pub returns-in_err-place-clause-places : goal.returns-in_err-place-clause-places
returns-in_err-place-clause-places g c = rw (← c.self.view_is) assumption

pub returns-in_err-place-clause-length : goal.returns-in_err-place-clause-length
returns-in_err-place-clause-length g c =
    let past = get_or_past c.self.inside.places c.args.local None (not_found c.self.inside.places c.args.local c.in_err-place.ensures.lookup.0) in
    c.from_residual.ensures ∙ sym (ap (option_map (λ p. body_length p.definition)) past)
    ∙ ap (λ e. option_map (λ p. body_length p.definition) (defined_at e c.args.local)) c.self.view_is

pub returns-in_err-place-clause-size : goal.returns-in_err-place-clause-size
returns-in_err-place-clause-size g c =
    let past = get_or_past c.self.inside.places c.args.local None (not_found c.self.inside.places c.args.local c.in_err-place.ensures.lookup.0) in
    c.from_residual.ensures ∙ sym (ap (option_map message_size) past) ∙ ap (λ e. option_map message_size (defined_at e c.args.local)) c.self.view_is

pub bounds-self-inside-local : goal.bounds-self-inside-local
bounds-self-inside-local g c = omega (arith, ltb-true c.args.local (length c.self.inside.places) (sym c.in_ok-place.ensures.lookup.0))
