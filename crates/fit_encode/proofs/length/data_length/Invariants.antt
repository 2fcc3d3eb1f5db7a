use Rattle.fit_encode.proofs.Common.{◌≡◌, take, length, empty_environment, learn_all, records_bytes}
use Rattle.fit_encode.proofs.Orders.{AreSizes}
use Rattle.fit_encode.proofs.length.data_length.Given as goal

abbrev pub invariant-loop-r : goal.invariant-loop-r
invariant-loop-r g l = record {
  total : l.length ≡ length (records_bytes (empty_environment {A = g.row.A.Denot}) (take l.r-index l.records));
  sizes_long : length l.sizes ≡ 16;
  sizes : AreSizes (learn_all (empty_environment {A = g.row.A.Denot}) (take l.r-index l.records)) l.sizes;
}
