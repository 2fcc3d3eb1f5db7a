-- The numbers that the crate byteorder reads are those of the definitions.
use Rattle.fit_base.proofs.Common.{◌≡◌, ℕ, zero, suc, ◌+◌, ◌*◌, ◌^◌, ◌<◌, List, [], ◌∷◌, ◌++◌, length, get_or, drop, refl, sym, ap, ◌∙◌, arith, reverse}
use Rattle.fit_base.proofs.Common.{reverse-append, length-reverse, drop-cons, pow-suc, little}
use Rattle.byteorder.specs.Endian.{little_from, big_from}

past : (i : ℕ) (xs : List ℕ) → length xs ≡ i → drop i xs ≡ []
past zero [] h = refl
past zero (x ∷ xs) h = absurd (omega arith)
past (suc i) [] h = refl
past (suc i) (x ∷ xs) h = past i xs (omega arith)

pub little_from-is : (n i : ℕ) (xs : List ℕ) → length xs ≡ i + n → little_from i n xs ≡ little (drop i xs)
little_from-is zero i xs h = ap little (sym (past i xs (omega arith)))
little_from-is (suc n) i xs h =
    let next : little_from (suc i) n xs ≡ little (drop (suc i) xs) = little_from-is n (suc i) xs (omega arith) in
    let below : i < length xs = omega arith in
    rw (next, drop-cons xs i 0 below) refl

little-append : (xs : List ℕ) (b : ℕ) → little (xs ++ b ∷ []) ≡ little xs + b * 256 ^ length xs
little-append [] b = omega arith
little-append (x ∷ xs) b = rw (little-append xs b, pow-suc) (omega arith)

reverse-cons : (x : ℕ) (xs : List ℕ) → reverse (x ∷ xs) ≡ reverse xs ++ x ∷ []
reverse-cons x xs = reverse-append (x ∷ []) xs

length-drop_to : (n i : ℕ) (xs : List ℕ) → length xs ≡ i + n → length (drop i xs) ≡ n
length-drop_to n zero xs h = omega arith
length-drop_to n (suc i) [] h = omega arith
length-drop_to n (suc i) (x ∷ xs) h = length-drop_to n i xs (omega arith)

pub big_from-is : (n i : ℕ) (xs : List ℕ) → length xs ≡ i + n → big_from i n xs ≡ little (reverse (drop i xs))
big_from-is zero i xs h = ap (λ ys. little (reverse ys)) (sym (past i xs (omega arith)))
big_from-is (suc n) i xs h =
    let next : big_from (suc i) n xs ≡ little (reverse (drop (suc i) xs)) = big_from-is n (suc i) xs (omega arith) in
    let below : i < length xs = omega arith in
    let rest : length (reverse (drop (suc i) xs)) ≡ n = length-reverse (drop (suc i) xs) ∙ length-drop_to n (suc i) xs (omega arith) in
    let split : little (reverse (drop i xs)) ≡ little (reverse (drop (suc i) xs)) + get_or xs i 0 * 256 ^ n =
    ap (λ ys. little (reverse ys)) (drop-cons xs i 0 below) ∙ ap little (reverse-cons (get_or xs i 0) (drop (suc i) xs))
    ∙ little-append (reverse (drop (suc i) xs)) (get_or xs i 0) ∙ ap (λ k. little (reverse (drop (suc i) xs)) + get_or xs i 0 * 256 ^ k) rest in
    rw next (omega (arith, split))
