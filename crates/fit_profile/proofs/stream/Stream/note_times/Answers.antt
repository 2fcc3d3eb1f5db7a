use Rattle.fit_profile.proofs.Common.{◌∙◌, ◌∷◌, [], Some, ap, reverse, reverse-append, last_after}
use Rattle.fit_profile.proofs.Kept.{keeps-plain, not-first, told-now}
use Rattle.fit_profile.specs.inner.Alone.{times_alone}
use Rattle.fit_profile.proofs.stream.Stream.note_times.Goals as goal

pub invariant_of-self : goal.invariant_of-self
invariant_of-self c =
    let s = c.self.inside in (
      keeps-plain s.env s.last c.note_time.new.last s.names s.pushed.items c.add.new.self.items c.args.self.now c.args.record_.now
          c.self.invariant.0 c.self.view_is c.requires c.in_ok-time.ensures.nothing
          (c.note_time.ensures ∙ ap (last_after s.last) c.in_ok-time.ensures.told) c.add.ensures,
      c.self.invariant.1,
      not-first s.is_new s.pushed.items c.add.new.self.items c.args.self.now s.env c.args.record_.now c.self.invariant.2 c.self.view_is c.requires
          c.in_ok-time.ensures.nothing,
    )

pub returns-clause-told : goal.returns-clause-told
returns-clause-told c =
    let s = c.self.inside in
    let t = Some (times_alone c.in_ok-time.time c.in_ok-time.header_time) in
    told-now s.env s.last s.names (reverse s.pushed.items) c.args.self.now c.args.record_.now t c.self.invariant.0 c.self.view_is c.requires
    c.in_ok-time.ensures.told

pub returns-clause-taken : goal.returns-clause-taken
returns-clause-taken c _ =
    let r = c.args.record_.now in
    ap reverse c.add.ensures ∙ reverse-append c.self.inside.pushed.items (r ∷ []) ∙ ap (λ xs. r ∷ xs) c.self.view_is
