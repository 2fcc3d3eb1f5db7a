use Rattle.fit_cells.proofs.Common.{◌≡◌, ◌∙◌, ◌<◌, ◌^◌, ◌*◌, ◌/◌, ℕ, ℤ, pos, negsuc, neg_ℤ, ◌*ℤ◌, ◌-ℤ◌, unsigned_abs}
use Rattle.fit_cells.proofs.Common.{true, false, inl, inr, refl, ap, arith, ints, to_z, of_z, to_z-of_z, w128, mul-div_cancel, Some, decimals, IsScale}
use Rattle.std.proofs.lemmas.Int.{unsigned_abs-mul}
use lib.Signed.{lt_z}
use Rattle.fit_cells.proofs.raw.whole.Goals as goal

factor-some : (s : ℕ) → IsScale s → 0 < 10 ^ decimals s / s
factor-some s (inl is) = rw is (omega arith)
factor-some s (inr (inl is)) = rw is (omega arith)
factor-some s (inr (inr (inl is))) = rw is (omega arith)
factor-some s (inr (inr (inr (inl is)))) = rw is (omega arith)
factor-some s (inr (inr (inr (inr (inl is))))) = rw is (omega arith)
factor-some s (inr (inr (inr (inr (inr (inl is)))))) = rw is (omega arith)
factor-some s (inr (inr (inr (inr (inr (inr is)))))) = rw is (omega arith)

-- the size of what a number is many times of
size_of : (v n : ℤ) (f size abs : ℕ) → 0 < f → v ≡ n *ℤ pos f → abs ≡ unsigned_abs v → size ≡ abs / f → size ≡ unsigned_abs n
size_of v n f size abs some is of e =
    e ∙ ap (λ a. a / f) (of ∙ ap unsigned_abs is ∙ unsigned_abs-mul n (pos f)) ∙ mul-div_cancel (unsigned_abs n) some

-- it is below 0 where that is
negative : (v n : ℤ) (f : ℕ) → v ≡ n *ℤ pos f → lt_z v (pos 0) ≡ true → n ≡ neg_ℤ (pos (unsigned_abs n))
negative v (negsuc a) f is below = refl
negative v (pos a) f is below = let under : lt_z (pos (a * f)) (pos 0) ≡ true = rw is at below in absurd (grind (arith, ints))

positive : (v n : ℤ) (f : ℕ) → 0 < f → v ≡ n *ℤ pos f → lt_z v (pos 0) ≡ false → n ≡ pos (unsigned_abs n)
positive v (pos a) f some is above = refl
positive v (negsuc a) f some is above = absurd (grind (arith, ints))

pub returns-then-size-gt1180591620717411303424-clause-every : goal.returns-then-size-gt1180591620717411303424-clause-every
returns-then-size-gt1180591620717411303424-clause-every c number low high is =
    let f = 10 ^ decimals c.args.scale / c.args.scale in
    let kept = to_z-of_z w128 c.args.value c.ranges.value in
    let size = size_of c.args.value number f c.over_factor-size.result c.unsigned_abs.result (factor-some c.args.scale c.requires) is
    (c.unsigned_abs.ensures.value ∙ ap unsigned_abs kept) c.over_factor-size.ensures in
    absurd (omega (arith, ints, size, c.if-size-gt1180591620717411303424.true, low, high))

pub returns-then-value-lt0-clause-every : goal.returns-then-value-lt0-clause-every
returns-then-value-lt0-clause-every c number low high is =
    let f = 10 ^ decimals c.args.scale / c.args.scale in
    let kept = to_z-of_z w128 c.args.value c.ranges.value in
    let size = size_of c.args.value number f c.over_factor-size.result c.unsigned_abs.result (factor-some c.args.scale c.requires) is
    (c.unsigned_abs.ensures.value ∙ ap unsigned_abs kept) c.over_factor-size.ensures in
    let below = negative c.args.value number f is (rw kept at c.if-value-lt0.true) in
    let turned : to_z w128 (of_z w128 (pos 0 -ℤ to_z w128 c.over_factor-size.result)) ≡ number =
    omega (arith, ints, size, below, c.if-size-gt1180591620717411303424.false) in
    ap Some turned

pub returns-else-value-lt0-clause-every : goal.returns-else-value-lt0-clause-every
returns-else-value-lt0-clause-every c number low high is =
    let f = 10 ^ decimals c.args.scale / c.args.scale in
    let some = factor-some c.args.scale c.requires in
    let kept = to_z-of_z w128 c.args.value c.ranges.value in
    let size = size_of c.args.value number f c.over_factor-size.result c.unsigned_abs.result some is
    (c.unsigned_abs.ensures.value ∙ ap unsigned_abs kept) c.over_factor-size.ensures in
    let above = positive c.args.value number f some is (rw kept at c.if-value-lt0.false) in
    let same : to_z w128 c.over_factor-size.result ≡ number = omega (arith, ints, size, above, c.if-size-gt1180591620717411303424.false) in
    ap Some same
