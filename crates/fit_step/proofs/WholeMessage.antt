-- A data message that its definition carries is whole where all its bytes are there.
use Rattle.fit_step.proofs.Common.{◌≡◌, ℕ, ◌+◌, ◌-◌, ◌<◌, ◌≤◌, true, false, length, List, take, sym, ap, ◌∙◌, arith, Some, nat_le, ◌&&◌, option_map_or}
use Rattle.fit_step.proofs.Common.{leb-true, both, Defined, Data, Values, Environment, defined_at, message_size, IsRecord, can_fill, can_carry}
use Rattle.fit_step.proofs.Common.{can_fill_after_data}
use Rattle.fit_step.specs.inner.Whole.{StandsWhole}
pub use Rattle.fit_record.proofs.FoundMessages.{same_size, data_read, data_record}

module _ {A : Type 0} (e : Environment A) (p : Defined A) (message : Values A) (size room : ℕ) (known : defined_at e message.local ≡ Some p)
    (long : size ≡ message_size p) (some : 0 < room) (carry : can_carry e message.local (room - 1) ≡ true) where
  tested : (nat_le (message_size p) (room - 1) && can_fill e (room - 1 - message_size p)) ≡ true
  tested = sym (ap (λ o. option_map_or (λ q. nat_le (message_size q) (room - 1) && can_fill e (room - 1 - message_size q)) o false) known) ∙ carry

  parts : (nat_le (message_size p) (room - 1) ≡ true) × (can_fill e (room - 1 - message_size p) ≡ true)
  parts = both (nat_le (message_size p) (room - 1)) (can_fill e (room - 1 - message_size p)) tested

  pub carried_stands : (piece : List ℕ) → 1 + size ≤ length piece → IsRecord e (Data message) (take (1 + size) piece)
      → StandsWhole e room piece (Data message) (1 + size)
  carried_stands piece within spelled =
      let left : room - 1 - message_size p ≡ room - (1 + size) = omega (arith, long) in
      let fill : can_fill e (room - (1 + size)) ≡ true = ap (can_fill e) (sym left) ∙ parts.1 in
      record {
        some = omega arith;
        within = within;
        enough = omega (arith, leb-true (message_size p) (room - 1) parts.0, long, some);
        spelled = spelled;
        fills = λ sixteen. (can_fill_after_data e message (room - (1 + size)) sixteen).0 fill;
      }
