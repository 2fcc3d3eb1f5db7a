use Rattle.fit_step.proofs.Common.{length, take, AreSizesToSkip, AreSkipped, ◌≤◌, ◌-◌}
use Rattle.fit_step.proofs.skipping.skip_records.Given as goal

abbrev pub invariant-loop-used : goal.invariant-loop-used
invariant-loop-used g l = record {
  within : l.used ≤ length l.bytes;
  counted : l.count ≤ l.used;
  sizes : AreSizesToSkip l.env l.sizes;
  records : AreSkipped l.fn.env l.env (take l.used l.bytes) l.count;
}

abbrev pub decreases-loop-used : goal.decreases-loop-used
decreases-loop-used g l = length l.bytes - l.used
