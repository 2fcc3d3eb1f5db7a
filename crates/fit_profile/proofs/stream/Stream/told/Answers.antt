use Rattle.fit_profile.proofs.Common.{reverse}
use Rattle.fit_profile.proofs.Kept.{told-now}
use Rattle.fit_profile.proofs.stream.Stream.told.Goals as goal

pub returns : goal.returns
returns c =
    told-now c.self.inside.env c.self.inside.last c.self.inside.names (reverse c.self.inside.pushed.items) c.args.self.now c.args.record_.now c.tell.result
    c.self.invariant.0 c.self.view_is c.requires c.tell.ensures
