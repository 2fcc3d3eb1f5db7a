use Rattle.fit_encode.proofs.Common.{◌≡◌, take, length, empty_environment, learn_all, records_bytes, sink_state, Spells}
use Rattle.fit_encode.proofs.Orders.{AreOrders, AreSizes}
use Rattle.fit_encode.proofs.write.spell_records.Given as goal

abbrev pub invariant-loop-r : goal.invariant-loop-r
invariant-loop-r g l = record {
  spelled : Spells (sink_state g.K.Sink.contents g.K.Sink.has_failed l.initial.sink)
      (sink_state g.K.Sink.contents g.K.Sink.has_failed l.sink)
      l.initial.out l.out (records_bytes empty_environment (take l.r-index l.records));
  long : length l.orders ≡ 16;
  orders : AreOrders (learn_all (empty_environment {A = g.row.A.Denot}) (take l.r-index l.records)) l.orders;
  sizes_long : length l.sizes ≡ 16;
  sizes : AreSizes (learn_all (empty_environment {A = g.row.A.Denot}) (take l.r-index l.records)) l.sizes;
}
