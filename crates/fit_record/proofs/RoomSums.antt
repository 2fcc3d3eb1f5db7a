-- Rooms as sums of lengths.
use Rattle.fit_record.proofs.Common.{◌≡◌, ℕ, zero, suc, ◌+◌, ◌<◌, ◌≤◌, ◌⊎◌, inl, inr, Bool, true, refl, lit<, arith, ◌&&◌, ◌||◌, or_cases, or_left, or_right}
use Rattle.fit_record.proofs.Common.{and_parts, and_from, fills}

module _ (has : ℕ → Bool) where
  pub fills_6 : (room : ℕ) → 6 ≤ room → fills has room ≡ true
  fills_6 (suc (suc (suc (suc (suc (suc room)))))) h = refl
  fills_6 _ h = absurd (omega arith)

  pub fills_by_ones : has 1 ≡ true → (room : ℕ) → fills has room ≡ true
  fills_by_ones h zero = refl
  fills_by_ones h (suc zero) = h
  fills_by_ones h (suc (suc (suc (suc (suc (suc room)))))) = refl
  fills_by_ones h _ = or_left (has 1) _ h

  by_three : has 2 ≡ true → (has 1 ≡ true) ⊎ (has 3 ≡ true) → fills has 5 ≡ true
  by_three h (inl k) = fills_by_ones k 5
  by_three h (inr k) = or_right (has 1) _ (or_right (has 5) _ (and_from (has 2) (has 3) h k))

  by_two : has 3 ≡ true → (has 1 ≡ true) ⊎ (has 2 ≡ true) → fills has 5 ≡ true
  by_two h (inl k) = fills_by_ones k 5
  by_two h (inr k) = or_right (has 1) _ (or_right (has 5) _ (and_from (has 2) (has 3) k h))

  pub fills_more : (n room : ℕ) → 0 < n → has n ≡ true → fills has room ≡ true → fills has (n + room) ≡ true
  fills_more zero room p h k = absurd (omega arith)
  fills_more (suc zero) room p h k = fills_by_ones h (1 + room)
  fills_more (suc (suc zero)) zero p h k = or_right (has 1) _ h
  fills_more (suc (suc zero)) (suc zero) p h k = fills_by_ones k 3
  fills_more (suc (suc zero)) (suc (suc zero)) p h k = or_right (has 1) _ (or_left (has 2) _ h)
  fills_more (suc (suc zero)) (suc (suc (suc zero))) p h k = by_three h (or_cases (has 1) (has 3) k)
  fills_more (suc (suc (suc zero))) zero p h k = or_right (has 1) _ h
  fills_more (suc (suc (suc zero))) (suc zero) p h k = fills_by_ones k 4
  fills_more (suc (suc (suc zero))) (suc (suc zero)) p h k = by_two h (or_cases (has 1) (has 2) k)
  fills_more (suc (suc (suc (suc zero)))) zero p h k = or_right (has 1) _ (or_right (has 2) _ h)
  fills_more (suc (suc (suc (suc zero)))) (suc zero) p h k = fills_by_ones k 5
  fills_more (suc (suc (suc (suc (suc zero))))) zero p h k = or_right (has 1) _ (or_left (has 5) _ h)
  fills_more _ _ p h k = fills_6 _ (omega arith)

  pub fills_same : (other : ℕ → Bool) → other 1 ≡ has 1 → other 2 ≡ has 2 → other 3 ≡ has 3 → other 4 ≡ has 4 → other 5 ≡ has 5 → (room : ℕ)
      → fills other room ≡ fills has room
  fills_same other a b c d e zero = refl
  fills_same other a b c d e (suc zero) = a
  fills_same other a b c d e (suc (suc (suc (suc (suc (suc room)))))) = refl
  fills_same other a b c d e _ = cc

  -- what holds of 0, and of the sum with each length, holds of each room below 6 that is filled
  module _ (P : ℕ → Type 0) (none : P 0) (one : (n room : ℕ) → 0 < n → has n ≡ true → P room → P (n + room)) where
    ones : has 1 ≡ true → P 1 × P 2 × P 3 × P 4 × P 5
    ones h =
        let p1 : P 1 = one 1 0 (lit< tt) h none in let p2 : P 2 = one 1 1 (lit< tt) h p1 in let p3 : P 3 = one 1 2 (lit< tt) h p2 in
        let p4 : P 4 = one 1 3 (lit< tt) h p3 in let p5 : P 5 = one 1 4 (lit< tt) h p4 in
        (p1, p2, p3, p4, p5)

    two : (has 1 ≡ true) ⊎ (has 2 ≡ true) → P 2
    two (inl h) = (ones h).1
    two (inr h) = one 2 0 (lit< tt) h none

    three : (has 1 ≡ true) ⊎ (has 3 ≡ true) → P 3
    three (inl h) = (ones h).2
    three (inr h) = one 3 0 (lit< tt) h none

    two_or_four : (has 2 ≡ true) ⊎ (has 4 ≡ true) → P 4
    two_or_four (inl h) = one 2 2 (lit< tt) h (one 2 0 (lit< tt) h none)
    two_or_four (inr h) = one 4 0 (lit< tt) h none

    four : (has 1 ≡ true) ⊎ ((has 2 || has 4) ≡ true) → P 4
    four (inl h) = (ones h).3
    four (inr h) = two_or_four (or_cases (has 2) (has 4) h)

    five_or_both : (has 5 ≡ true) ⊎ ((has 2 && has 3) ≡ true) → P 5
    five_or_both (inl h) = one 5 0 (lit< tt) h none
    five_or_both (inr h) = let p = and_parts (has 2) (has 3) h in one 2 3 (lit< tt) p.0 (one 3 0 (lit< tt) p.1 none)

    five : (has 1 ≡ true) ⊎ ((has 5 || (has 2 && has 3)) ≡ true) → P 5
    five (inl h) = (ones h).4
    five (inr h) = five_or_both (or_cases (has 5) (has 2 && has 3) h)

    pub of_filled : (room : ℕ) → room < 6 → fills has room ≡ true → P room
    of_filled zero l h = none
    of_filled (suc zero) l h = (ones h).0
    of_filled (suc (suc zero)) l h = two (or_cases (has 1) (has 2) h)
    of_filled (suc (suc (suc zero))) l h = three (or_cases (has 1) (has 3) h)
    of_filled (suc (suc (suc (suc zero)))) l h = four (or_cases (has 1) (has 2 || has 4) h)
    of_filled (suc (suc (suc (suc (suc zero))))) l h = five (or_cases (has 1) (has 5 || (has 2 && has 3)) h)
    of_filled (suc (suc (suc (suc (suc (suc room)))))) l h = absurd (omega arith)
