use Rattle.fit_encode.proofs.Common.{ap, length, arith}
use Rattle.std.proofs.lemmas.List.{length-drop}
use Rattle.fit_encode.proofs.Written.{Appends-more}
use Rattle.fit_encode.proofs.sink.put_all.Goals as goal

pub loop-written-preserved : goal.loop-written-preserved
loop-written-preserved g c = record {
  within = omega (arith, c.in-Ok.ensures.bound, ap length c.split_at.ensures.back, length-drop c.loop-written.written c.args.bytes.now);
  appended = Appends-more _ _ _ c.args.bytes.now c.loop-written.written c.in-Ok.n c.loop-written.invariant.appended
      (rw c.split_at.ensures.back at c.in-Ok.ensures.bytes);
  works = λ _. c.in-Ok.ensures.some (omega arith);
  none = λ none. absurd (omega arith);
}

pub returns-in-Ok-eq0-clause-ok : goal.returns-in-Ok-eq0-clause-ok
returns-in-Ok-eq0-clause-ok g c = cc

pub returns-in-Ok-eq0-clause-works : goal.returns-in-Ok-eq0-clause-works
returns-in-Ok-eq0-clause-works g c = cc
