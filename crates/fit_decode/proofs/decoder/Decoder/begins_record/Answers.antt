use Rattle.std.proofs.lemmas.Bool.{lt-ltb, ltb-true}
use Rattle.fit_decode.proofs.LookingAhead.{record_to_come, room_to_come}
use Rattle.fit_decode.proofs.decoder.Decoder.begins_record.Goals as goal

pub returns : goal.returns
returns g c = (
  λ is. record_to_come c.args.self.now c.room_ahead.result c.room_ahead.ensures (ltb-true 0 c.room_ahead.result is),
  λ comes. lt-ltb 0 c.room_ahead.result (room_to_come c.args.self.now c.room_ahead.result c.room_ahead.ensures comes),
)
