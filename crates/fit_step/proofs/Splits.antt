-- Two ways to begin one list.
use Rattle.fit_step.proofs.Common.{◌≡◌, ◌⊎◌, inl, inr, ℕ, List, [], ◌∷◌, ◌++◌, refl}

-- the second goes on after the first
pub record GoesPast (a b x y : List ℕ) : Type 0 where
  pub more : List ℕ
  pub second : b ≡ a ++ more
  pub beyond : x ≡ more ++ y

-- the first goes on after the second, by one byte at least
pub record EndsAfter (a b x y : List ℕ) : Type 0 where
  pub next : ℕ
  pub more : List ℕ
  pub first : a ≡ b ++ next ∷ more
  pub beyond : y ≡ next ∷ more ++ x

pub split : (a b x y : List ℕ) → a ++ x ≡ b ++ y → GoesPast a b x y ⊎ EndsAfter a b x y
split [] b x y e = inl (record { more = b; second = refl; beyond = e })
split (c ∷ a) [] x y e = inr (record { next = c; more = a; first = refl; beyond = cc })
split (c ∷ a) (d ∷ b) x y e =
    let head : c ≡ d = cc in
    let tail : a ++ x ≡ b ++ y = cc in
    elim (split a b x y tail) [
      | inl s ↦ let second = s.second in inl (record { more = s.more; second = cc; beyond = s.beyond })
      | inr s ↦ let first = s.first in inr (record { next = s.next; more = s.more; first = cc; beyond = s.beyond })
    ]
