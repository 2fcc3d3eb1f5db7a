-- Far from the end of the data section each definition message can be completed.
use Rattle.fit_step.proofs.Common.{◌≡◌, ℕ, ◌+◌, ◌-◌, ◌≤◌, true, false, Bool, arith, or_left, or_right, and_from, nat_le, le-leb}
use Rattle.fit_step.proofs.Common.{Environment, can_fill_with, can_fill_from, others_have, finishes, can_complete, can_complete_dev, cond}
use Rattle.fit_step.proofs.Common.{◌==◌, ◌||◌, ◌&&◌}
use Rattle.fit_record.proofs.RoomSums.{fills_6}

module _ {A : Type 0} (e : Environment A) (local : ℕ) where
  -- six bytes and more can be filled, whatever the definition says
  finishes_far : (t size left : ℕ) → 6 ≤ left → finishes e local t size left ≡ true
  finishes_far t size left far = go (nat_le 2 t)
    where
      go : (c : Bool) → cond c (can_fill_from e local size left) (can_fill_with e local size left) ≡ true
      go true = or_right (nat_le (1 + size) left) _ (fills_6 (others_have e local) left far)
      go false = fills_6 (λ n. others_have e local n || (1 + size == n)) left far

  pub completes_far : (t size room : ℕ) → t + 7 ≤ room → can_complete e local t size room ≡ true
  completes_far t size room far =
      and_from (nat_le t room) (finishes e local t size (room - t)) (le-leb t room (omega (arith, far)))
      (finishes_far t size (room - t) (omega (arith, far)))

  pub completes_dev_far : (t size room : ℕ) → t + 7 ≤ room → can_complete_dev e local t size room ≡ true
  completes_dev_far t size room far =
      let left : ℕ = room - (t + 1) in
      let other : Bool = nat_le 3 left && can_fill_from e local size (left - 3) in
      and_from (nat_le (t + 1) room) (finishes e local t size left || other) (le-leb (t + 1) room (omega (arith, far)))
      (or_left (finishes e local t size left) other (finishes_far t size left (omega (arith, far))))
