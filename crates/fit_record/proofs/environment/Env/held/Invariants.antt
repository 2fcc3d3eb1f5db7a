use Rattle.fit_record.proofs.Common.{◌≡◌, ◌*◌, ◌<◌, ◌≤◌, length, take, sum_by, option_map_or, entry_count}
use Rattle.fit_record.proofs.environment.Env.held.Given as goal

abbrev pub invariant-loop-local : goal.invariant-loop-local
invariant-loop-local g l = record {
  counted : l.entries ≡ sum_by (λ p. option_map_or (λ q. entry_count q.definition) p 0) (take l.local l.self.places);
  small : l.entries ≤ 510 * l.local;
  sixteen : 0 < l.local → length l.self.places ≡ 16;
}
