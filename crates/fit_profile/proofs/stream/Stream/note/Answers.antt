use Rattle.fit_profile.proofs.Common.{◌∙◌, ◌∷◌, [], ap, reverse, reverse-append, last_after}
use Rattle.fit_profile.proofs.Kept.{keeps-plain, last-now, not-first, told-now}
use Rattle.fit_profile.proofs.stream.Stream.note.Goals as goal

pub invariant_of-self : goal.invariant_of-self
invariant_of-self c =
    let s = c.self.inside in
    let nothing = c.is_plain.ensures s.env c.self.invariant.1 c.if-is_plain.true in (
      keeps-plain s.env s.last c.last_after-last.result s.names s.pushed.items c.add.new.self.items c.args.self.now c.args.record_.now
          c.self.invariant.0 c.self.view_is c.requires nothing
          (c.last_after-last.ensures ∙ ap (last_after s.last) c.tell-told.ensures) c.add.ensures,
      c.self.invariant.1,
      not-first s.is_new s.pushed.items c.add.new.self.items c.args.self.now s.env c.args.record_.now c.self.invariant.2 c.self.view_is c.requires nothing,
    )

pub returns-then-is_plain-clause-ok : goal.returns-then-is_plain-clause-ok
returns-then-is_plain-clause-ok c =
    let r = c.args.record_.now in
    ap reverse c.add.ensures ∙ reverse-append c.self.inside.pushed.items (r ∷ []) ∙ ap (λ xs. r ∷ xs) c.self.view_is

pub returns-then-is_plain-clause-told : goal.returns-then-is_plain-clause-told
returns-then-is_plain-clause-told c =
    let s = c.self.inside in
    told-now s.env s.last s.names (reverse s.pushed.items) c.args.self.now c.args.record_.now c.tell-told.result c.self.invariant.0 c.self.view_is
    c.requires c.tell-told.ensures

pub advance-requires-clause-last : goal.advance-requires-clause-last
advance-requires-clause-last c =
    let s = c.self.inside in
    last-now s.env s.last c.last_after-last.result s.names (reverse s.pushed.items) c.args.self.now c.args.record_.now c.tell-told.result
    c.self.invariant.0 c.self.view_is c.requires c.tell-told.ensures c.last_after-last.ensures

pub returns-clause-told : goal.returns-clause-told
returns-clause-told c =
    let s = c.self.inside in
    told-now s.env s.last s.names (reverse s.pushed.items) c.args.self.now c.args.record_.now c.tell-told.result c.self.invariant.0 c.self.view_is
    c.requires c.tell-told.ensures
