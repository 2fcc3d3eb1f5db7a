use Rattle.std.proofs.Common.{◌≡◌, drop}
use Rattle.fit_writer.specs.inner.Forms.{first_time}
use Rattle.fit_writer.proofs.times.first_time.Given as goal

-- no field so far is a timestamp
abbrev pub invariant-loop-place : goal.invariant-loop-place
invariant-loop-place l = first_time l.block l.fields l.slots ≡ first_time l.block (drop l.place l.fields) (drop l.place l.slots)
