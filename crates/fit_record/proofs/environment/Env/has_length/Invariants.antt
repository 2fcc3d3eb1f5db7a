use Rattle.fit_record.proofs.Common.{◌≡◌, ◌<◌, length, take, false, has_length}
use Rattle.fit_record.proofs.environment.Env.has_length.Given as goal

abbrev pub invariant-loop-local : goal.invariant-loop-local
invariant-loop-local g l =
    (has_length (take l.local l.self.places) l.n ≡ false) × (0 < l.local → length l.self.places ≡ 16)
