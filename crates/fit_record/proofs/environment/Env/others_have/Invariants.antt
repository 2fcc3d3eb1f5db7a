use Rattle.fit_record.proofs.Common.{◌≡◌, ◌<◌, length, take, false, None, slice_set, has_length}
use Rattle.fit_record.proofs.environment.Env.others_have.Given as goal

abbrev pub invariant-loop-other : goal.invariant-loop-other
invariant-loop-other g l =
    (has_length (take l.other (slice_set l.self.places l.local None)) l.n ≡ false) × (0 < l.other → length l.self.places ≡ 16)
