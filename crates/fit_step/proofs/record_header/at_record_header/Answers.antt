use Rattle.fit_step.proofs.Common.{◌≡◌, ◌∙◌, ◌<◌, ◌≤◌, arith, true, false, inl, inr, refl, subst, sym, both_ways, lt-ltb, le-ltb, nat_lt}
use Rattle.fit_step.proofs.Common.{has_reserved_bit, is_definition}
use Rattle.fit_step.specs.Reasons.{least_definition}
use Rattle.fit_step.specs.Machine.{header_move}
use Rattle.fit_step.proofs.record_header.at_record_header.Goals as goal

pub at_message-requires : goal.at_message-requires
at_message-requires g c = assumption

pub overflow_sub-room : goal.overflow_sub-room
overflow_sub-room g c = omega (arith, c.requires.room)

pub returns-then-has_reserved_bit : goal.returns-then-has_reserved_bit
unfolding header_move
returns-then-has_reserved_bit g c =
    let reserved : has_reserved_bit c.args.byte ≡ true = sym c.has_reserved_bit.ensures ∙ c.if-has_reserved_bit.true in
    record { made = rw reserved refl; free = λ _. tt }

pub returns-then-not-is_definition : goal.returns-then-not-is_definition
unfolding header_move
returns-then-not-is_definition g c =
    let plain : has_reserved_bit c.args.byte ≡ false = sym c.has_reserved_bit.ensures ∙ c.if-has_reserved_bit.false in
    let message : is_definition c.args.byte ≡ false = sym c.is_definition.ensures ∙ c.if-not-is_definition.true in
    record {
      made = rw (plain, message) c.at_message.ensures.made;
      free = λ none. elim none [
        | inl definition ↦ absurd (both_ways (is_definition c.args.byte) message definition)
        | inr heads ↦ c.at_message.ensures.free heads.1
      ];
    }

pub returns-then-room-least_definition : goal.returns-then-room-least_definition
unfolding header_move
returns-then-room-least_definition g c =
    let room = c.args.room.now in
    let plain : has_reserved_bit c.args.byte ≡ false = sym c.has_reserved_bit.ensures ∙ c.if-has_reserved_bit.false in
    let definition : is_definition c.args.byte ≡ true = sym c.is_definition.ensures ∙ c.if-not-is_definition.false in
    let short : nat_lt room (least_definition c.args.byte) ≡ true =
    lt-ltb _ _ (subst (λ n. room < n) c.least_definition.ensures c.if-room-least_definition.true) in
    record { made = rw (plain, definition, short) refl; free = λ _. tt }

pub returns : goal.returns
unfolding header_move
returns g c =
    let room = c.args.room.now in
    let plain : has_reserved_bit c.args.byte ≡ false = sym c.has_reserved_bit.ensures ∙ c.if-has_reserved_bit.false in
    let definition : is_definition c.args.byte ≡ true = sym c.is_definition.ensures ∙ c.if-not-is_definition.false in
    let long : nat_lt room (least_definition c.args.byte) ≡ false =
    le-ltb _ _ (subst (λ n. n ≤ room) c.least_definition.ensures c.if-room-least_definition.false) in
    record { made = rw (plain, definition, long, c.new_definition.ensures) refl; free = λ _. tt }
