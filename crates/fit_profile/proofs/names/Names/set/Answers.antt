use Rattle.fit_profile.proofs.Common.{refl, sym, subst, IsSome, nameless}
use Rattle.std.proofs.lemmas.Bool.{true≢false}
use Rattle.fit_profile.proofs.NameFacts.{naming-updated}
use Rattle.fit_profile.proofs.names.Names.set.Goals as goal

pub returns-clause-naming : goal.returns-clause-naming
returns-clause-naming g c index number =
    naming-updated c.args.self.now.described c.insert.new.self c.args.key c.args.texts nameless c.in-Ok.ensures.updates index number

pub returns-clause-namings : goal.returns-clause-namings
returns-clause-namings g c local = refl

pub unreachable-requires : goal.unreachable-requires
unreachable-requires g c = true≢false (sym (subst IsSome c.in-Err.ensures.absent c.requires))
