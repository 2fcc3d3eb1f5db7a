use Rattle.fit_profile.proofs.Common.{subst, Some, get, Updates, Naming, nameless, dev_key_cmp}
use Rattle.fit_profile.proofs.NameFacts.{naming-reserved, absent}
use Rattle.fit_profile.proofs.names.Names.reserve.Goals as goal

pub returns-in_ok-insert-clause-naming : goal.returns-in_ok-insert-clause-naming
returns-in_ok-insert-clause-naming g c index number =
    naming-reserved c.args.self.now.described c.insert.new.self c.args.key nameless
    (subst (λ (x : Naming). Updates dev_key_cmp c.args.self.now.described c.insert.new.self c.args.key (Some x)) c.none.ensures c.in_ok-insert.ensures.updates)
    (absent (get dev_key_cmp c.args.self.now.described c.args.key) c.contains_key.result c.contains_key.ensures c.if-not-contains_key.true) index number
