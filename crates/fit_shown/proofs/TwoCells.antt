-- Two cells put one after the other.
use Rattle.fit_shown.proofs.Common.{◌≡◌, ◌++◌, ◌∷◌, [], refl, append_assoc}
use Rattle.std.proofs.Common.{ℕ, List}

-- two cells put one after the other
pub two_put : (text a b : List ℕ) → (((text ++ a) ++ (44 ∷ [])) ++ b) ++ (44 ∷ []) ≡ text ++ (a ++ (44 ∷ (b ++ (44 ∷ []))))
two_put text a b = simp append_assoc refl
