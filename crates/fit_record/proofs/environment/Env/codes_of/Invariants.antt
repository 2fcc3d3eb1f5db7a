use Rattle.fit_record.proofs.Common.{◌≡◌, take, dev_code, map}
use Rattle.fit_record.proofs.environment.Env.codes_of.Given as goal

abbrev pub invariant-loop-f : goal.invariant-loop-f
invariant-loop-f g l = l.codes ≡ map (dev_code l.fn.self) (take l.f-index l.fields)
