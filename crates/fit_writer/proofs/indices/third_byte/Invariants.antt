use Rattle.std.proofs.Common.{◌≡◌, drop}
use Rattle.fit_writer.specs.inner.Indices.{third_byte}
use Rattle.fit_writer.proofs.indices.third_byte.Given as goal

-- no field so far has number 3
abbrev pub invariant-loop-place : goal.invariant-loop-place
invariant-loop-place l = third_byte l.block l.fields l.slots ≡ third_byte l.block (drop l.place l.fields) (drop l.place l.slots)
