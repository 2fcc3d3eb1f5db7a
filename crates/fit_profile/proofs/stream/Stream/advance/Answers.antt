use Rattle.fit_profile.proofs.Common.{◌∙◌, ◌∷◌, [], sym, ap, subst, reverse, reverse-append, KeepsRecords, known}
use Rattle.std.specs.Prelude.{IsOk}
use Rattle.fit_profile.specs.inner.Plans.{ArePlanned}
use Rattle.fit_profile.proofs.Kept.{keeps-same, keeps-next}
use Rattle.fit_profile.proofs.Planned.{planned_same, sixteen_of}
use Rattle.fit_profile.proofs.stream.Stream.advance.Goals as goal

pub invariant_of-self : goal.invariant_of-self
invariant_of-self c = (
  c.self.invariant.0,
  planned_same c.self.inside.plans.places.items c.make_room.new.self.places.items c.self.inside.env.places c.make_room.ensures.same c.self.invariant.1,
  c.self.invariant.2,
)

pub returns-in_err-make_room-clause-free : goal.returns-in_err-make_room-clause-free
returns-in_err-make_room-clause-free c none =
    let wrong = subst (λ r. IsOk r) c.in_err-make_room.was (c.make_room.ensures.free (known c.args.self.now) none) in cc wrong

pub invariant_of-self-in_err-changes : goal.invariant_of-self-in_err-changes
invariant_of-self-in_err-changes c =
    let s = c.self.inside in (
      keeps-same s.env c.take_in.new.env s.last s.names c.take_in.new.names (reverse s.pushed.items) c.self.invariant.0
          c.in_err-changes.ensures.env_kept c.in_err-changes.ensures.names_kept,
      subst (λ x. ArePlanned c.make_room.new.self.places.items x.places) (sym c.in_err-changes.ensures.env_kept)
          (planned_same s.plans.places.items c.make_room.new.self.places.items s.env.places c.make_room.ensures.same c.self.invariant.1),
      c.self.invariant.2,
    )

pub invariant_of-self-2 : goal.invariant_of-self-2
invariant_of-self-2 c =
    let items = c.self.inside.pushed.items in
    let r = c.args.record_.now in
    let e = c.self.inside.env in (
      subst (λ ys. KeepsRecords c.take_in.new.env c.args.last c.take_in.new.names (reverse ys)) (sym c.add.ensures)
          (keeps-next c.self.inside.env c.take_in.new.env c.self.inside.last c.args.last c.self.inside.names c.take_in.new.names items c.args.self.now r
          c.self.invariant.0 c.self.view_is c.in_ok-changes.ensures.learned c.requires.last c.in_ok-changes.ensures.names),
      subst (λ x. ArePlanned c.take.new.self.places.items x.places) (sym c.in_ok-changes.ensures.learned)
          (c.take.ensures e (sixteen_of e items c.self.invariant.0.env_is)
          (planned_same c.self.inside.plans.places.items c.make_room.new.self.places.items e.places c.make_room.ensures.same c.self.invariant.1)
          c.in_ok-changes.ensures.same),
      λ wrong. cc wrong,
    )

pub returns-clause-ok : goal.returns-clause-ok
returns-clause-ok c =
    let r = c.args.record_.now in
    ap reverse c.add.ensures ∙ reverse-append c.self.inside.pushed.items (r ∷ []) ∙ ap (λ xs. r ∷ xs) c.self.view_is
