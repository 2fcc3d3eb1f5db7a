use Rattle.fit_record.proofs.Common.{◌-◌, ◌≤◌, length, drop, sizes}
use Rattle.fit_record.proofs.BytesOfNumbers.{shapes}
use Rattle.fit_record.proofs.OneWalk.{IsFound}
use Rattle.fit_record.proofs.describing.description_by_bytes.Given as goal

abbrev pub invariant-loop-place : goal.invariant-loop-place
invariant-loop-place g l = record {
  told : IsFound g.row.A.Denot l.d.order l.d.fields l.bytes l.found (drop l.place l.d.fields) l.rest;
  enough : sizes (shapes (drop l.place l.d.fields)) ≤ length l.rest;
}

abbrev pub decreases-loop-place : goal.decreases-loop-place
decreases-loop-place g l = length l.fields - l.place
