use Rattle.fit_decode.proofs.Common.{subst, sym, ◌∙◌}
use Rattle.fit_decode.proofs.LookingAhead.{none_ahead, none_inside, room_here}
use Rattle.fit_decode.specs.inner.Aheads.{RoomAhead}
use Rattle.fit_decode.proofs.decoder.ahead.room_ahead.Goals as goal

pub returns-in_default : goal.returns-in_default
returns-in_default g c =
    subst (λ o. RoomAhead g.row.A.Denot o 0 0) c.decoder.view_is (none_ahead c.decoder.inside c.decoder.invariant c.in_default.not-Data)

pub returns-in-Some : goal.returns-in-Some
returns-in-Some g c =
    subst (λ o. RoomAhead g.row.A.Denot o 0 0) c.decoder.view_is
    (none_inside c.decoder.inside c.decoder.invariant c.in-Data.is (λ none. let some = sym c.in-Some.is ∙ none in cc))

pub returns-in-None : goal.returns-in-None
returns-in-None g c =
    subst (λ o. RoomAhead g.row.A.Denot o 0 c.decoder.inside.position.room) c.decoder.view_is
    (room_here c.decoder.inside c.decoder.invariant c.in-Data.is c.in-None.is)
