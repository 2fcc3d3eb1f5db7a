-- Lists of bytes, and numbers as bytes.
use Rattle.fit_base.proofs.Common.{◌≡◌, ℕ, zero, suc, ◌*◌, ◌/◌, ◌^◌, ◌<◌, Bool, true, false, cond, List, [], ◌∷◌, ◌++◌, length, refl, sym, ap, ◌∙◌, ltb, lit<}
use Rattle.fit_base.proofs.Common.{arith, append_assoc, flat_map, Some, unwrap_or, find, reverse-reverse, length-reverse, pow-suc, list_all, AllByRecursion}
use Rattle.fit_base.proofs.Common.{Order, Little, Big, IsBytes, little, number, little_bytes, number_bytes}
use Rattle.std.specs.Prelude.{◌&&◌}
use borrow.Author.Tests.{ltb-true}

pub both : (a b : Bool) → (a && b) ≡ true → (a ≡ true) × (b ≡ true)
both true b h = (refl, h)
both false b h = cc

-- a test that computes
pub bytes_below : (xs : List ℕ) → list_all (λ b. ltb b 256) xs ≡ true → IsBytes xs
bytes_below [] h i = lit< tt
bytes_below (x ∷ xs) h zero = ltb-true x 256 (both _ _ h).0
bytes_below (x ∷ xs) h (suc i) = bytes_below xs (both _ _ h).1 i

-- lists that are equal with something after them, and as long, are equal
pub front_back : {X : Type 0} → (a b x y : List X) → length a ≡ length b → a ++ x ≡ b ++ y → (a ≡ b) × (x ≡ y)
front_back [] [] x y l e = (refl, e)
front_back [] (c ∷ b) x y l e = absurd (omega arith)
front_back (c ∷ a) [] x y l e = absurd (omega arith)
front_back (c ∷ a) (d ∷ b) x y l e =
    let t : a ++ x ≡ b ++ y = cc in
    let r : (a ≡ b) × (x ≡ y) = front_back a b x y (omega arith) t in
    let h : c ≡ d = cc in
    (cc (h, r.0), r.1)

pub length-little_bytes : (w n : ℕ) → length (little_bytes w n) ≡ w
length-little_bytes zero n = refl
length-little_bytes (suc w) n = ap suc (length-little_bytes w (n / 256))

pub little-little_bytes : (w n : ℕ) → n < 256 ^ w → little (little_bytes w n) ≡ n
little-little_bytes zero n h = omega arith
little-little_bytes (suc w) n h =
    let below : n < 256 ^ w * 256 = rw pow-suc at h in
    let high : n / 256 < 256 ^ w = omega (arith, below) in
    let rest : little (little_bytes w (n / 256)) ≡ n / 256 = little-little_bytes w (n / 256) high in
    rw rest (omega arith)

pub length-number_bytes : (o : Order) (w n : ℕ) → length (number_bytes o w n) ≡ w
length-number_bytes Little w n = length-little_bytes w n
length-number_bytes Big w n = length-reverse (little_bytes w n) ∙ length-little_bytes w n

pub number-number_bytes : (o : Order) (w n : ℕ) → n < 256 ^ w → number o (number_bytes o w n) ≡ n
number-number_bytes Little w n h = little-little_bytes w n h
number-number_bytes Big w n h = ap little (reverse-reverse (little_bytes w n)) ∙ little-little_bytes w n h

-- numbers below 256 ^ w with the same w bytes are equal
pub one_number : (o : Order) (w m n : ℕ) (x y : List ℕ) → m < 256 ^ w → n < 256 ^ w → number_bytes o w m ++ x ≡ number_bytes o w n ++ y → (m ≡ n) × (x ≡ y)
one_number o w m n x y p q e =
    let r = front_back (number_bytes o w m) (number_bytes o w n) x y (length-number_bytes o w m ∙ sym (length-number_bytes o w n)) e in
    (sym (number-number_bytes o w m p) ∙ ap (number o) r.0 ∙ number-number_bytes o w n q, r.1)

-- and so are as many numbers, one after another
pub same_numbers : (o : Order) (w : ℕ) (ms ns x y : List ℕ) → length ms ≡ length ns → AllByRecursion (λ n. n < 256 ^ w) ms
    → AllByRecursion (λ n. n < 256 ^ w) ns
    → flat_map (number_bytes o w) ms ++ x ≡ flat_map (number_bytes o w) ns ++ y → (ms ≡ ns) × (x ≡ y)
same_numbers o w [] [] x y l p q e = (refl, e)
same_numbers o w [] (n ∷ ns) x y l p q e = absurd (omega arith)
same_numbers o w (m ∷ ms) [] x y l p q e = absurd (omega arith)
same_numbers o w (m ∷ ms) (n ∷ ns) x y l p q e =
    let regrouped = sym (append_assoc (number_bytes o w m) (flat_map (number_bytes o w) ms) x) ∙ e
    ∙ append_assoc (number_bytes o w n) (flat_map (number_bytes o w) ns) y in
    let first = one_number o w m n _ _ p.0 q.0 regrouped in
    let others = same_numbers o w ms ns x y (omega arith) p.1 q.1 first.1 in
    (cc (first.0, others.0), others.1)

-- what each element passes, the one that is found passes too
pub found_passes : {X : Type 0} → (test passes : X → Bool) (d : X) (xs : List X) → passes d ≡ true → list_all passes xs ≡ true
    → passes (unwrap_or (find test xs) d) ≡ true
found_passes test passes d [] h k = h
found_passes test passes d (x ∷ xs) h k =
    elim (test x) as (λ b. passes (unwrap_or (cond b (Some x) (find test xs)) d) ≡ true) [
      | true ↦ (both _ _ k).0
      | false ↦ found_passes test passes d xs h (both _ _ k).1
    ]
