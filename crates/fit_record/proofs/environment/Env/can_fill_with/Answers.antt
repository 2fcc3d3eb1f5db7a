use Rattle.fit_record.proofs.Common.{ℕ, ◌+◌, ◌==◌, ◌||◌, sym, ◌∙◌, lit<, get_or, false, ◌∷◌, [], others_have}
use Rattle.fit_record.proofs.RoomSums.{fills_same, fills_6}
use Rattle.fit_record.proofs.environment.Env.can_fill_with.Goals as goal

pub returns-then-room-gt5 : goal.returns-then-room-gt5
returns-then-room-gt5 g c =
    let has = λ (n : ℕ). others_have c.args.self.now c.args.local n || (1 + c.args.size == n) in
    sym (fills_6 has c.args.room c.if-room-gt5.true)

pub has_length_with-requires : goal.has_length_with-requires
has_length_with-requires g c = (assumption, (c.requires, lit< tt))

pub has_length_with-requires-2 : goal.has_length_with-requires-2
has_length_with-requires-2 g c = (assumption, (c.requires, lit< tt))

pub has_length_with-requires-3 : goal.has_length_with-requires-3
has_length_with-requires-3 g c = (assumption, (c.requires, lit< tt))

pub has_length_with-requires-4 : goal.has_length_with-requires-4
has_length_with-requires-4 g c = (assumption, (c.requires, lit< tt))

pub has_length_with-requires-5 : goal.has_length_with-requires-5
has_length_with-requires-5 g c = (assumption, (c.requires, lit< tt))

pub returns : goal.returns
returns g c =
    let has = λ (n : ℕ). others_have c.args.self.now c.args.local n || (1 + c.args.size == n) in
    c.is_filled.ensures ∙ fills_same has
    (λ n. get_or
    (false ∷ c.has_length_with.result ∷ c.has_length_with-2.result ∷ c.has_length_with-3.result ∷ c.has_length_with-4.result ∷ c.has_length_with-5.result ∷ [])
    n false)
    c.has_length_with.ensures c.has_length_with-2.ensures c.has_length_with-3.ensures c.has_length_with-4.ensures c.has_length_with-5.ensures c.args.room
