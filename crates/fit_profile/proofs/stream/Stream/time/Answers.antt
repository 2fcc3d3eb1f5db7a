use Rattle.fit_profile.proofs.Common.{◌∙◌, ap, ap₂}
use Rattle.fit_profile.specs.Times.{time, time_of}
use Rattle.fit_profile.proofs.stream.Stream.time.Goals as goal

pub returns : goal.returns
returns c =
    c.time_of.ensures ∙ ap₂ (λ e l. time_of e l.time c.args.record_.now) c.self.invariant.0.env_is c.self.invariant.0.last_is
    ∙ ap (λ xs. time xs c.args.record_.now) c.self.view_is
