-- The least number from a start on that leaves a given rest, by arithmetic.
use Rattle.fit_profile.proofs.Common.{◌≡◌, ◌∙◌, ℕ, zero, suc, ◌+◌, ◌-◌, ◌*◌, ◌/◌, ◌%◌, ◌<◌, ◌≤◌, Bool, true, false, Some, None, inl, inr, refl, sym, ap, arith}
use Rattle.fit_profile.proofs.Common.{subst, eq-eqb, find, IsSomeAnd, range_with_len, add-mod_right, mod-add-div', mod-lt, ne_eqb, cases_lt}
use Rattle.std.proofs.Common.{◌==◌}
use Rattle.std.proofs.lemmas.Nat.{mod-mul-add}
use Rattle.fit_profile.specs.Least.{least_from, IsLeastFrom}

find-none : (p : ℕ → Bool) (n start : ℕ) → ((j : ℕ) → j < n → p (start + j) ≡ false) → find p (range_with_len start n) ≡ None
find-none p zero start h = refl
find-none p (suc n) start h =
    let first : p start ≡ false = let e : start + 0 ≡ start = omega arith in ap p (sym e) ∙ h 0 (omega arith) in
    rw first (find-none p n (start + 1) (λ j l. let e : start + 1 + j ≡ start + (j + 1) = omega arith in ap p e ∙ h (j + 1) (omega (arith, l))))

find-first : (p : ℕ → Bool) (n start k : ℕ) → k < n → p (start + k) ≡ true → ((j : ℕ) → j < k → p (start + j) ≡ false)
    → find p (range_with_len start n) ≡ Some (start + k)
find-first p zero start k l hit miss = absurd (omega (arith, l))
find-first p (suc n) start zero l hit miss =
    let e : start + 0 ≡ start = omega arith in
    let first : p start ≡ true = ap p (sym e) ∙ hit in
    rw first (ap Some (sym e))
find-first p (suc n) start (suc k) l hit miss =
    let e : start + 0 ≡ start = omega arith in
    let first : p start ≡ false = ap p (sym e) ∙ miss 0 (omega arith) in
    let next : start + 1 + k ≡ start + suc k = omega arith in
    rw first (find-first p n (start + 1) k (omega (arith, l)) (ap p next ∙ hit)
    (λ j m. let f : start + 1 + j ≡ start + (j + 1) = omega arith in ap p f ∙ miss (j + 1) (omega (arith, m))) ∙ ap Some next)

near-parts : (q m x j : ℕ) → x + j < m → (q * m + x + j) % m ≡ x + j
near-parts q m x j h = let e : q * m + x + j ≡ q * m + (x + j) = omega arith in ap (λ z. z % m) e ∙ mod-mul-add q m (x + j) h

far-parts : (q m x j : ℕ) → m ≤ x + j → x + j < m + m → (q * m + x + j) % m ≡ x + j - m
far-parts q m x j h l =
    let e : q * m + x + j ≡ q * m + (x + j - m) + m = omega (arith, h) in
    ap (λ z. z % m) e ∙ add-mod_right (q * m + (x + j - m)) m ∙ mod-mul-add q m (x + j - m) (omega (arith, h, l))

parts : (n m : ℕ) → n ≡ n / m * m + n % m
parts n m = let e = mod-add-div' n m in omega (arith, e)

-- the rest of a number a few steps on, before and after the next multiple
near : (start m j : ℕ) → start % m + j < m → (start + j) % m ≡ start % m + j
near start m j h = ap (λ s. (s + j) % m) (parts start m) ∙ near-parts (start / m) m (start % m) j h

far : (start m j : ℕ) → m ≤ start % m + j → start % m + j < m + m → (start + j) % m ≡ start % m + j - m
far start m j h l = ap (λ s. (s + j) % m) (parts start m) ∙ far-parts (start / m) m (start % m) j h l

-- no number before the next one with the rest leaves it
early : (start rest m j : ℕ) → rest < m → start % m ≤ rest → j < rest - start % m → (start + j) % m ≡ rest → ⊥
early start rest m j r at l e = omega (arith, near start m j (omega (arith, r, l)), e, l)

late : (start rest m j : ℕ) → rest < m → rest < start % m → j < m - start % m + rest → (start + j) % m ≡ rest → ⊥
late start rest m j r at l e =
    let below : start % m < m = mod-lt start (omega (arith, r)) in
    elim (cases_lt (start % m + j) m) [
      | inl same ↦ omega (arith, near start m j same, e, at)
      | inr next ↦ omega (arith, far start m j next (omega (arith, l, below, r)), e, l, next)
    ]

least-by : (start rest m k : ℕ) → k < m → (start + k) % m ≡ rest → ((j : ℕ) → j < k → (start + j) % m ≡ rest → ⊥) → least_from start rest m ≡ Some (start + k)
least-by start rest m k l hit miss = find-first (λ a. a % m == rest) m start k l (eq-eqb ((start + k) % m) rest hit)
    (λ j h. ne_eqb ((start + j) % m) rest (miss j h))

pub least-none : (start rest m : ℕ) → 0 < m → m ≤ rest → least_from start rest m ≡ None
least-none start rest m above h =
    find-none (λ a. a % m == rest) m start (λ j l.
    ne_eqb ((start + j) % m) rest (λ e. let below : (start + j) % m < m = mod-lt (start + j) above in omega (arith, below, e, h)))

pub least-before : (start rest m : ℕ) → rest < m → start % m ≤ rest → least_from start rest m ≡ Some (start + (rest - start % m))
least-before start rest m r at =
    least-by start rest m (rest - start % m) (omega (arith, r)) (near start m (rest - start % m) (omega (arith, r, at)) ∙ omega (arith, at))
    (λ j l e. early start rest m j r at l e)

pub least-after : (start rest m : ℕ) → rest < m → rest < start % m → least_from start rest m ≡ Some (start + (m - start % m + rest))
least-after start rest m r at =
    let below : start % m < m = mod-lt start (omega (arith, r)) in
    least-by start rest m (m - start % m + rest) (omega (arith, below, at))
    (far start m (m - start % m + rest) (omega (arith, below)) (omega (arith, below, r)) ∙ omega (arith, below)) (λ j l e. late start rest m j r at l e)

-- a number that leaves the rest doesn't stand before that one
not-before : (start rest m k b : ℕ) → ((j : ℕ) → j < k → (start + j) % m ≡ rest → ⊥) → start ≤ b → b % m ≡ rest → start + k ≤ b
not-before start rest m k b miss h e = elim (cases_lt b (start + k)) [
  | inl less ↦
      let at : start + (b - start) ≡ b = omega (arith, h) in
      absurd (miss (b - start) (omega (arith, less, h)) (ap (λ z. z % m) at ∙ e))
  | inr more ↦ more
]

pub least_is_least : (start rest m : ℕ) → rest < m → IsSomeAnd (least_from start rest m) (IsLeastFrom start rest m)
least_is_least start rest m r = elim (cases_lt rest (start % m)) [
  | inl at ↦
      let below : start % m < m = mod-lt start (omega (arith, r)) in
      let k = m - start % m + rest in
      subst (λ o. IsSomeAnd o (IsLeastFrom start rest m)) (sym (least-after start rest m r at)) (record {
        from = omega arith;
        has_rest = far start m (m - start % m + rest) (omega (arith, below)) (omega (arith, below, r)) ∙ omega (arith, below);
        least = λ b h e. not-before start rest m (m - start % m + rest) b (λ j l f. late start rest m j r at l f) h e;
      })
  | inr at ↦
      subst (λ o. IsSomeAnd o (IsLeastFrom start rest m)) (sym (least-before start rest m r at)) (record {
        from = omega arith;
        has_rest = near start m (rest - start % m) (omega (arith, r, at)) ∙ omega (arith, at);
        least = λ b h e. not-before start rest m (rest - start % m) b (λ j l f. early start rest m j r at l f) h e;
      })
]
