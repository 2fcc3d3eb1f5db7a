use Rattle.fit_record.proofs.Common.{◌≡◌, ◌↔◌, ◌∙◌, IsTrue, length, sym, subst, arith, get_or, false, ◌∷◌, [], CanFill, has_length}
use Rattle.fit_record.proofs.RoomSums.{fills_same, fills_6}
use Rattle.fit_record.proofs.FilledRooms.{can_fill_is}
use Rattle.fit_record.proofs.environment.Env.can_fill.Goals as goal

pub returns-then-room-gt5 : goal.returns-then-room-gt5
returns-then-room-gt5 g c =
    let e = c.args.self.now in
    let sixteen : length c.args.self.now.places ≡ 16 = rw (← c.self.view_is) assumption in
    subst (λ b. IsTrue b ↔ CanFill e c.args.room) (fills_6 (has_length e.places) c.args.room (omega arith)) (can_fill_is e c.args.room sixteen)

pub returns : goal.returns
returns g c =
    let computed = c.is_filled.ensures ∙ fills_same (has_length c.args.self.now.places)
    (λ n. get_or (false ∷ c.has_length.result ∷ c.has_length-2.result ∷ c.has_length-3.result ∷ c.has_length-4.result ∷ c.has_length-5.result ∷ []) n false)
    c.has_length.ensures.value c.has_length-2.ensures.value c.has_length-3.ensures.value c.has_length-4.ensures.value c.has_length-5.ensures.value c.args.room
    in
    subst (λ b. IsTrue b ↔ CanFill c.args.self.now c.args.room) (sym computed) (can_fill_is c.args.self.now c.args.room c.has_length.ensures.places)

pub has_length-requires : goal.has_length-requires
has_length-requires g c = assumption

pub has_length-requires-2 : goal.has_length-requires-2
has_length-requires-2 g c = assumption

pub has_length-requires-3 : goal.has_length-requires-3
has_length-requires-3 g c = assumption

pub has_length-requires-4 : goal.has_length-requires-4
has_length-requires-4 g c = assumption

pub has_length-requires-5 : goal.has_length-requires-5
has_length-requires-5 g c = assumption
