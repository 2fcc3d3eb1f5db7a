use Rattle.fit_step.proofs.Common.{◌≡◌, ◌++◌, take}
use Rattle.fit_step.proofs.partial.Partial.followed_by.Given as goal

abbrev pub invariant-loop-byte : goal.invariant-loop-byte
invariant-loop-byte l = l.all ≡ l.self ++ take l.byte-index l.more
