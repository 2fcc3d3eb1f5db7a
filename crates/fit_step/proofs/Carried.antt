-- What there is of a data message can go on just where the room after it can be filled.
use Rattle.fit_step.proofs.Common.{◌≡◌, ◌↔◌, IsTrue, ℕ, ◌+◌, ◌-◌, List, ◌∷◌, ◌++◌, length, refl, sym, ap, ◌∙◌, subst, arith, Some, Option, IfSome, both_ways}
use Rattle.fit_step.proofs.Common.{IsBytes, Defined, Record, Define, Data, Environment, defined_at, learn, is_definition, message_size, data_header}
use Rattle.fit_step.proofs.Common.{DataHeaderFits, data_bytes, order_at, record_bytes, Fits, CanFill, can_fill, can_carry, CanCarry, can_carry_is, Continues}
use Rattle.std.proofs.Common.{◌≤◌}
use Rattle.fit_step.proofs.HeaderBits.{data_bits}
use Rattle.fit_step.proofs.HeaderSteps.{carry_test, definition_first}

module _ {A : Type 0} (e : Environment A) (local : ℕ) (offset : Option ℕ) (part : List ℕ) (rest room : ℕ)
    (sixteen : length e.places ≡ 16) (header : DataHeaderFits local offset) (are : IsBytes part) (p : Defined A) (known : defined_at e local ≡ Some p)
    (size : message_size p ≡ length part + rest) (within : rest ≤ room) where
  tested : can_carry e local (length part + room) ≡ can_fill e (room - rest)
  tested = carry_test e local p (length part + room) (room - rest) known (omega (arith, size, within))

  carried_on : CanCarry e (data_header local offset) part room → Continues e (data_header local offset ∷ part) room
  carried_on (v, more, left, fits, first, others, are_more, fill, total) = record {
    whole = Data v;
    rest = more;
    left = left;
    fits = fits;
    spelled = ap (λ h. h ∷ data_bytes (order_at e v.local) v) first ∙ ap (λ l. data_header local offset ∷ l) others;
    are_bytes = are_more;
    filled = fill;
    total = total;
  }

  of_whole : (r : Record A) (more : List ℕ) (left : ℕ) → Fits e r → record_bytes e r ≡ (data_header local offset ∷ part) ++ more → IsBytes more
      → CanFill (learn e r) left → length more + left ≡ room
      → CanCarry e (data_header local offset) part room
  of_whole (Define d) more left fits spelled are_more fill total =
      absurd (both_ways (is_definition (data_header local offset)) (data_bits (data_header local offset) local offset refl header).kind
      (definition_first d (data_header local offset) (part ++ more) fits spelled).bits.kind)
  of_whole (Data v) more left fits spelled are_more fill total =
      let first : data_header v.local v.offset ≡ data_header local offset = cc in
      let others : data_bytes (order_at e v.local) v ≡ part ++ more = cc in
      (v, more, left, fits, first, others, are_more, fill, total)

  pub data_continues : IsTrue (can_fill e (room - rest)) ↔ Continues e (data_header local offset ∷ part) room
  data_continues =
      let begun : IfSome (defined_at e local) (λ q. length part ≤ message_size q) =
      subst (λ (o : Option (Defined A)). IfSome o (λ q. length part ≤ message_size q)) (sym known) (omega (arith, size)) in
      let law = can_carry_is e local offset part room sixteen header are begun in
      (λ h. carried_on (law.0 (tested ∙ h)), λ c. sym tested ∙ law.1 (of_whole c.whole c.rest c.left c.fits c.spelled c.are_bytes c.filled c.total))
