use Rattle.fit_record.proofs.Common.{lit≤, sym, ap, ◌∙◌, subst, IfSome, option_map_or, entry_count, IsSound}
use Rattle.fit_record.proofs.environment.Env.entries_at.Goals as goal

pub defined-requires : goal.defined-requires
defined-requires g c = assumption

pub entry_count-requires-clause-fields : goal.entry_count-requires-clause-fields
entry_count-requires-clause-fields g c = (subst (λ o. IfSome o IsSound) (sym c.in-Some.ensures.place) c.in-Some.ensures.sound).fields

pub entry_count-requires-clause-dev_fields : goal.entry_count-requires-clause-dev_fields
entry_count-requires-clause-dev_fields g c = (subst (λ o. IfSome o IsSound) (sym c.in-Some.ensures.place) c.in-Some.ensures.sound).dev_fields

pub returns-in-Some-clause-count : goal.returns-in-Some-clause-count
returns-in-Some-clause-count g c = c.entry_count.ensures.count ∙ ap (λ o. option_map_or (λ p. entry_count p.definition) o 0) c.in-Some.ensures.place

pub returns-in-Some-clause-small : goal.returns-in-Some-clause-small
returns-in-Some-clause-small g c = c.entry_count.ensures.small

pub returns-in-Some-clause-places : goal.returns-in-Some-clause-places
returns-in-Some-clause-places g c = rw (← c.self.view_is) assumption

pub returns-in-None-clause-places : goal.returns-in-None-clause-places
returns-in-None-clause-places g c = rw (← c.self.view_is) assumption

pub returns-in-None-clause-count : goal.returns-in-None-clause-count
returns-in-None-clause-count g c = ap (λ o. option_map_or (λ p. entry_count p.definition) o 0) c.in-None.ensures.place

pub returns-in-None-clause-small : goal.returns-in-None-clause-small
returns-in-None-clause-small g c = lit≤ tt
