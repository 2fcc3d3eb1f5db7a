-- What is kept for a developer field, by its key.
use Rattle.fit_profile.proofs.Common.{◌≡◌, ◌∙◌, ℕ, Bool, true, false, cond, Option, Some, None, refl, sym, ap, ap₂, inl, inr, arith, lt-ltb, le-ltb, eq-eqb}
use Rattle.fit_profile.proofs.Common.{Ordering, Less, is_some, unwrap_or, nat_cmp, ordering_then, is_eq, get, is_at, Updates, BTreeMap, cases_lt, cases_eq}
use Rattle.fit_profile.proofs.Common.{ne_eqb, and_parts, dev_key_cmp, is_key}
use Rattle.std.proofs.Common.{eqb-true}
use Rattle.std.specs.Prelude.{◌==◌, ◌&&◌}
use Rattle.fit_record.specs.declared.learn.DevKey.{DevKey}

equal-is : (a b : ℕ) → is_eq (nat_cmp a b) ≡ (a == b)
equal-is a b = elim (cases_lt a b) [
  | inl less ↦ rw (lt-ltb a b less, ne_eqb a b (λ e. absurd (omega (arith, less, e)))) refl
  | inr more ↦ elim (cases_eq a b) [
    | inl same ↦ rw (le-ltb a b more, eq-eqb a b same) refl
    | inr other ↦ rw (le-ltb a b more, ne_eqb a b other) refl
  ]
]

both-equal : (c o : Ordering) → is_eq (ordering_then c o) ≡ (is_eq c && is_eq o)
both-equal Less o = refl
both-equal _ o = refl

at-key : (key : DevKey) (index number : ℕ) → is_at (dev_key_cmp key) (record { index = index; number = number }) ≡ is_key key index number
at-key key index number =
    both-equal (nat_cmp key.index index) (nat_cmp key.number number) ∙ ap₂ (λ a b. a && b) (equal-is key.index index) (equal-is key.number number)

key-is : (key : DevKey) (index number : ℕ) → is_key key index number ≡ true → record { index = index; number = number } ≡ key
key-is key index number e =
    let same = and_parts (key.index == index) (key.number == number) e in
    let i : key.index ≡ index = eqb-true key.index index same.0 in
    let n : key.number ≡ number = eqb-true key.number number same.1 in
    sym (λ t. record { index = i t; number = n t })

pub or-kept : {X : Type 0} (b : Bool) (x none : X) (o : Option X) → unwrap_or (cond b (Some x) o) none ≡ cond b x (unwrap_or o none)
or-kept true x none o = refl
or-kept false x none o = refl

pub map-updated : {K X : Type 0} (cmp : K → K → Ordering) (m n : BTreeMap K X) (key q : K) (x none : X) (b : Bool) → is_at (cmp key) q ≡ b
    → Updates cmp m n key (Some x)
    → unwrap_or (get cmp n q) none ≡ cond b x (unwrap_or (get cmp m q) none)
map-updated cmp m n key q x none b at u = ap (λ o. unwrap_or o none) (u.0 q ∙ ap (λ t. cond t (Some x) (get cmp m q)) at) ∙ or-kept b x none (get cmp m q)

pub naming-updated : {X : Type 0} (m n : BTreeMap DevKey X) (key : DevKey) (x none : X) → Updates dev_key_cmp m n key (Some x) → (index number : ℕ)
    → unwrap_or (get dev_key_cmp n (record { index = index; number = number })) none
    ≡ cond (is_key key index number) x (unwrap_or (get dev_key_cmp m (record { index = index; number = number })) none)
naming-updated m n key x none u index number =
    map-updated dev_key_cmp m n key (record { index = index; number = number }) x none (is_key key index number) (at-key key index number) u

-- a key that had nothing may be kept with the default
map-reserved : {K X : Type 0} (cmp : K → K → Ordering) (m n : BTreeMap K X) (key q : K) (none : X) (b : Bool) → is_at (cmp key) q ≡ b → (b ≡ true → q ≡ key)
    → Updates cmp m n key (Some none) → get cmp m key ≡ None → unwrap_or (get cmp n q) none ≡ unwrap_or (get cmp m q) none
map-reserved cmp m n key q none true at same u absent =
    map-updated cmp m n key q none none true at u ∙ sym (ap (λ k. unwrap_or (get cmp m k) none) (same refl) ∙ ap (λ o. unwrap_or o none) absent)
map-reserved cmp m n key q none false at same u absent = map-updated cmp m n key q none none false at u

pub naming-reserved : {X : Type 0} (m n : BTreeMap DevKey X) (key : DevKey) (none : X) → Updates dev_key_cmp m n key (Some none) → get dev_key_cmp m key ≡ None
    → (index number : ℕ)
    → unwrap_or (get dev_key_cmp n (record { index = index; number = number })) none
    ≡ unwrap_or (get dev_key_cmp m (record { index = index; number = number })) none
naming-reserved m n key none u absent index number =
    map-reserved dev_key_cmp m n key (record { index = index; number = number }) none (is_key key index number) (at-key key index number)
    (key-is key index number) u absent

-- a key that isn't held has nothing
pub absent : {X : Type 0} (o : Option X) (held : Bool) → held ≡ is_some o → held ≡ false → o ≡ None
absent None held is free = refl
absent (Some x) held is free = cc
