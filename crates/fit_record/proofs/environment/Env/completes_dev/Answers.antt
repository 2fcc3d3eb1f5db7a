use Rattle.fit_record.proofs.Common.{◌≡◌, ◌+◌, ◌-◌, refl, sym, ◌∙◌, arith, true, false, le-leb, lt-leb, nat_le}
use Rattle.fit_record.specs.Unfinished.{finishes}
use Rattle.fit_record.proofs.environment.Env.completes_dev.Goals as goal

pub finishes-requires : goal.finishes-requires
finishes-requires g c = assumption

pub can_fill_from-requires : goal.can_fill_from-requires
can_fill_from-requires g c = assumption

pub returns : goal.returns
returns g c =
    let left = c.args.room - (c.args.to_come + 1) in
    let fits : nat_le (c.args.to_come + 1) c.args.room ≡ true = le-leb _ _ (omega arith) in
    let three : nat_le 3 left ≡ true = le-leb _ _ (omega arith) in
    let without : finishes c.args.self.now c.args.local c.args.to_come c.args.size left ≡ false = sym c.finishes.ensures ∙ c.if-finishes.false in
    rw (fits, without, three) c.can_fill_from.ensures

pub returns-then-room-to_come : goal.returns-then-room-to_come
returns-then-room-to_come g c =
    let short : nat_le (c.args.to_come + 1) c.args.room ≡ false = lt-leb _ _ (omega (arith, c.if-room-to_come.true)) in rw short refl

pub returns-then-finishes : goal.returns-then-finishes
returns-then-finishes g c =
    let left = c.args.room - (c.args.to_come + 1) in
    let fits : nat_le (c.args.to_come + 1) c.args.room ≡ true = le-leb _ _ (omega arith) in
    let without : finishes c.args.self.now c.args.local c.args.to_come c.args.size left ≡ true = sym c.finishes.ensures ∙ c.if-finishes.true in
    rw (fits, without) refl

pub returns-then-left-lt3 : goal.returns-then-left-lt3
returns-then-left-lt3 g c =
    let left = c.args.room - (c.args.to_come + 1) in
    let fits : nat_le (c.args.to_come + 1) c.args.room ≡ true = le-leb _ _ (omega arith) in
    let few : nat_le 3 left ≡ false = lt-leb _ _ (omega arith) in
    let without : finishes c.args.self.now c.args.local c.args.to_come c.args.size left ≡ false = sym c.finishes.ensures ∙ c.if-finishes.false in
    rw (fits, without, few) refl
