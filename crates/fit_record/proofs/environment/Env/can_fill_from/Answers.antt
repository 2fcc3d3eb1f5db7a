use Rattle.fit_record.proofs.Common.{◌+◌, sym, ap, ◌∙◌, arith, get_or, false, ◌∷◌, [], ◌||◌, or_right, lt-leb, others_have, fills}
use Rattle.fit_record.proofs.RoomSums.{fills_same, fills_6}
use Rattle.fit_record.proofs.environment.Env.can_fill_from.Goals as goal

pub returns-then-room-gt5 : goal.returns-then-room-gt5
returns-then-room-gt5 g c = sym (or_right _ _ (fills_6 (others_have c.args.self.now c.args.local) c.args.room c.if-room-gt5.true))

pub others_have-requires : goal.others_have-requires
others_have-requires g c = assumption

pub others_have-requires-2 : goal.others_have-requires-2
others_have-requires-2 g c = assumption

pub others_have-requires-3 : goal.others_have-requires-3
others_have-requires-3 g c = assumption

pub others_have-requires-4 : goal.others_have-requires-4
others_have-requires-4 g c = assumption

pub others_have-requires-5 : goal.others_have-requires-5
others_have-requires-5 g c = assumption

pub returns : goal.returns
returns g c =
    let has = others_have c.args.self.now c.args.local in
    c.is_filled.ensures ∙ fills_same has
    (λ n. get_or (false ∷ c.others_have.result ∷ c.others_have-2.result ∷ c.others_have-3.result ∷ c.others_have-4.result ∷ c.others_have-5.result ∷ [])
    n false)
    c.others_have.ensures c.others_have-2.ensures c.others_have-3.ensures c.others_have-4.ensures c.others_have-5.ensures c.args.room
    ∙ sym (ap (λ b. b || fills has c.args.room) (lt-leb (1 + c.args.least) c.args.room (omega arith)))
