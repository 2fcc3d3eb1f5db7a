use Rattle.fit_encode.proofs.Common.{take, flat_map, items_bytes, sink_state, Spells}
use Rattle.fit_encode.proofs.message.spell_lists.Given as goal

abbrev pub invariant-loop-items : goal.invariant-loop-items
invariant-loop-items g l = Spells (sink_state g.K.Sink.contents g.K.Sink.has_failed l.initial.sink)
    (sink_state g.K.Sink.contents g.K.Sink.has_failed l.sink) l.initial.out l.out (flat_map (items_bytes l.order) (take l.items-index l.lists))
