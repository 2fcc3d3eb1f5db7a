use Rattle.std.proofs.Common.{ℕ, ◌<◌}
use Rattle.std.specs.Global.{Global}
use Rattle.fit_record.specs.declared.environment.Defined.{Defined}
use Rattle.fit_writer.specs.Written.{SaysSame}
use Rattle.fit_writer.specs.inner.Places.{form_of}
use Rattle.fit_writer.proofs.places.find_same.Given as goal

-- no place so far says the same
abbrev pub invariant-loop-local : goal.invariant-loop-local
invariant-loop-local l = (k : ℕ) (p : Defined Global) → k < l.local → SaysSame l.stream k (form_of l.lone) p → ⊥
