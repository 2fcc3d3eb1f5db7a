-- A raw value stands for one number.
use Rattle.fit_numbers.proofs.Common.{◌≡◌, ◌∙◌, ℕ, ℤ, pos, ◌*ℤ◌, inl, inr, arith, sym, ints, IsScale, IsScaled}

same-times : (v w : ℤ) (s : ℕ) → IsScale s → v *ℤ pos s ≡ w *ℤ pos s → v ≡ w
same-times v w s (inl one) e = let h = rw one at e in omega (arith, ints, h)
same-times v w s (inr (inl five)) e = let h = rw five at e in omega (arith, ints, h)
same-times v w s (inr (inr (inl ten))) e = let h = rw ten at e in omega (arith, ints, h)
same-times v w s (inr (inr (inr (inl hundred)))) e = let h = rw hundred at e in omega (arith, ints, h)
same-times v w s (inr (inr (inr (inr (inl thousand))))) e = let h = rw thousand at e in omega (arith, ints, h)
same-times v w s (inr (inr (inr (inr (inr (inl sixteen)))))) e = let h = rw sixteen at e in omega (arith, ints, h)
same-times v w s (inr (inr (inr (inr (inr (inr most)))))) e = let h = rw most at e in omega (arith, ints, h)

pub one_scaled : (raw : ℤ) (scale offset : ℕ) (v w : ℤ) → IsScale scale → IsScaled raw scale offset v → IsScaled raw scale offset w → v ≡ w
one_scaled raw scale offset v w known a b = same-times v w scale known (a ∙ sym b)
