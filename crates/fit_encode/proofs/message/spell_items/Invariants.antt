use Rattle.fit_encode.proofs.Common.{take, flat_map, number_bytes, sink_state, Spells}
use Rattle.fit_encode.proofs.message.spell_items.Given as goal

abbrev pub invariant-loop-bits : goal.invariant-loop-bits
invariant-loop-bits g l = Spells (sink_state g.K.Sink.contents g.K.Sink.has_failed l.initial.sink)
    (sink_state g.K.Sink.contents g.K.Sink.has_failed l.sink) l.initial.out l.out
    (flat_map (number_bytes l.order l.items.width) (take l.bits-index l.bits-items))
