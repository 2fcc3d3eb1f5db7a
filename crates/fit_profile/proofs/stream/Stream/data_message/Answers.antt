use Rattle.fit_profile.proofs.Common.{◌∙◌, ap, drop, reverse, defined_at, known, namings_at, shown}
use Rattle.fit_profile.proofs.Kept.{place-kept}
use Rattle.fit_profile.proofs.ShownFacts.{shown-meant, is-defined}
use Rattle.fit_profile.proofs.stream.Stream.data_message.Goals as goal

pub of-requires-clause-defined : goal.of-requires-clause-defined
of-requires-clause-defined c =
    let v = c.args.values.now in
    let earlier = drop 1 c.args.self.now in
    let kept = place-kept earlier c.args.self.now (reverse c.self.inside.pushed.items) c.self.inside.env v c.self.invariant.0.env_is c.self.view_is
    c.requires.pushed in
    is-defined (defined_at (known earlier) v.local) (defined_at c.self.inside.env v.local) v c.requires.fits kept

pub of-requires-clause-plans : goal.of-requires-clause-plans
of-requires-clause-plans c = c.self.invariant.1

pub returns : goal.returns
returns c =
    let v = c.args.values.now in
    let earlier = drop 1 c.args.self.now in
    let kept = place-kept earlier c.args.self.now (reverse c.self.inside.pushed.items) c.self.inside.env v c.self.invariant.0.env_is c.self.view_is
    c.requires.pushed in
    let namings = c.self.invariant.0.namings_are v.local ∙ ap (λ xs. namings_at xs v.local) (c.self.view_is ∙ c.requires.pushed) in
    shown-meant earlier v (defined_at (known earlier) v.local) (shown c.of.result) c.requires.fits c.of.ensures.values
    (c.of.ensures.defined ∙ kept) (c.of.ensures.namings ∙ namings) (c.of.ensures.told_is ∙ c.requires.told)
