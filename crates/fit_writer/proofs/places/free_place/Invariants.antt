use Rattle.std.proofs.Common.{◌≡◌, ℕ, ◌<◌}
use Rattle.std.specs.Prelude.{None}
use Rattle.fit_record.specs.Environment.{defined_at}
use Rattle.fit_profile.specs.Looks.{known}
use Rattle.fit_writer.proofs.places.free_place.Given as goal

-- no place so far is free
abbrev pub invariant-loop-local : goal.invariant-loop-local
invariant-loop-local l = (k : ℕ) → k < l.local → defined_at (known l.stream) k ≡ None → ⊥
