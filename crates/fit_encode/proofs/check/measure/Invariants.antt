use Rattle.fit_encode.proofs.Common.{◌≡◌, ◌<◌, take, length, empty_environment, learn_all, AllFit, records_bytes}
use Rattle.std.proofs.Common.{◌^◌}
use Rattle.fit_encode.proofs.check.measure.Given as goal

abbrev pub invariant-loop-index : goal.invariant-loop-index
invariant-loop-index g l = record {
  known : l.env ≡ learn_all empty_environment (take l.index l.records);
  small : l.length < 2 ^ 32;
  fit : AllFit empty_environment (take l.index l.records);
  total : l.length ≡ length (records_bytes empty_environment (take l.index l.records));
}
