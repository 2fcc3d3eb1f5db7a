-- The last digits of a number.
use Rattle.fit_numbers.proofs.Common.{◌≡◌, inl, inr, drop, drop-cons, get_or, ◌∙◌, ◌++◌, ◌∷◌, [], ◌+◌, ◌*◌, ◌/◌, ◌%◌, ◌^◌, ◌<◌, ◌≤◌, zero, suc, ℕ, ℤ, pos}
use Rattle.fit_numbers.proofs.Common.{negsuc, mul_assoc, unsigned_abs, decimal, List, refl, ap, ap₂, sym, arith, add-one, length, append_assoc, pow-suc}
use Rattle.fit_numbers.proofs.Common.{pow-succ', div-lt_iff_lt-mul, div-le_self, mod-lt, mod-eq_of_lt, add-mul, mul_comm, div-div-eq-div-mul, is_ascii_digit}
use Rattle.fit_numbers.proofs.Common.{decimal_by_steps_wide, decimal_step_wide, cases_Bool, ne_eqb, last_digits, fixed_text, fraction, sign, digits_in}
use Rattle.fit_numbers.proofs.Common.{next_value}
use Rattle.std.proofs.Math.Arith.{mod-mul}
use Rattle.std.proofs.lemmas.Bool.Decides.{nat_tests}
use Rattle.std.specs.Fmt.{digits}

pub last_digits-none : (n : ℕ) → last_digits 0 n ≡ []
unfolding last_digits
last_digits-none n = refl

pub power_above : (k : ℕ) → 0 < 10 ^ k
power_above zero = omega arith
power_above (suc k) = let h = power_above k in rw (pow-suc 10 k) (omega (arith, h))

pub last_digits-end : (k n : ℕ) → last_digits (suc k) n ≡ last_digits k (n / 10) ++ ((48 + n % 10) ∷ [])
unfolding last_digits
last_digits-end zero n = let e : n / 1 ≡ n = omega arith in rw e refl
last_digits-end (suc k) n =
    let digit : n / 10 ^ suc k ≡ n / 10 / 10 ^ k = ap (λ p. n / p) (pow-succ' 10 k) ∙ sym (div-div-eq-div-mul n 10 (10 ^ k)) in
    ap₂ (λ x ds. (48 + x % 10) ∷ ds) digit (last_digits-end k n)

-- the digits before them make no difference
pub last_digits-mod : (k n : ℕ) → last_digits k (n % 10 ^ k) ≡ last_digits k n
last_digits-mod zero n = last_digits-none (n % 10 ^ 0) ∙ sym (last_digits-none n)
last_digits-mod (suc k) n =
    let p = 10 ^ k in
    let low : n % 10 ^ suc k ≡ n / 10 % p * 10 + n % 10 = ap (λ q. n % q) (pow-suc 10 k) ∙ mod-mul n {m = 10 ^ k} {c = 10} (power_above k) (omega arith) in
    let before : n % 10 ^ suc k / 10 ≡ n / 10 % p = rw low (omega arith) in
    let last : n % 10 ^ suc k % 10 ≡ n % 10 = rw low (omega arith) in
    last_digits-end k (n % 10 ^ suc k)
    ∙ ap₂ (λ q x. last_digits k q ++ ((48 + x) ∷ [])) before last
    ∙ ap (λ ds. ds ++ ((48 + n % 10) ∷ [])) (last_digits-mod k (n / 10)) ∙ sym (last_digits-end k n)

pub length-last_digits : (k n : ℕ) → length (last_digits k n) ≡ k
unfolding last_digits
length-last_digits zero n = refl
length-last_digits (suc k) n = rw (length-last_digits k n) (omega arith)

ten-more : (p n : ℕ) → ((10 * p + n) / 10 ≡ p + n / 10) × ((10 * p + n) % 10 ≡ n % 10)
ten-more p n = (omega arith, omega arith)

decimal-one : decimal 1 ≡ 49 ∷ []
unfolding digits
decimal-one = refl

-- the digits of a number below 10 ^ d stand after the one of 10 ^ d
pub digits-after_one : (d n : ℕ) → n < 10 ^ d → 10 ^ d + n < 10 ^ 64 → decimal (10 ^ d + n) ≡ 49 ∷ last_digits d n
digits-after_one zero n h small = let none : n ≡ 0 = omega (arith, h) in rw (none, last_digits-none 0) decimal-one
digits-after_one (suc d) n h small =
    let p = 10 ^ d in
    let above = power_above d in
    let tens : 10 ^ suc d ≡ 10 * 10 ^ d = pow-succ' 10 d in
    let below : n < 10 * 10 ^ d = rw tens at h in
    let few : 10 * 10 ^ d + n < 10 ^ 64 = rw tens at small in
    let parts = ten-more (10 ^ d) n in
    ap (λ q. decimal (q + n)) tens ∙ decimal_step_wide (10 * 10 ^ d + n) (omega (arith, above)) few
    ∙ ap₂ (λ q x. decimal q ++ ((48 + x) ∷ [])) parts.0 parts.1
    ∙ ap (λ ds. ds ++ ((48 + n % 10) ∷ [])) (digits-after_one d (n / 10) (omega (arith, below)) (omega (arith, few, above)))
    ∙ ap (λ ds. 49 ∷ ds) (sym (last_digits-end d n))

pub after-one : (text : List ℕ) (d n p : ℕ) → p ≡ 10 ^ d → p ≤ 100_000_000 → n < 10 ^ d → text ≡ decimal (p + n) → text ≡ 49 ∷ last_digits d n
after-one text d n p power small below is =
    is ∙ ap (λ q. decimal (q + n)) power ∙ digits-after_one d n below (let bound : 10 ^ d ≤ 100_000_000 = rw power at small in omega (arith, bound, below))

-- the part before the point, where there is a point
pub short-whole : (n u : ℕ) → n < 2 ^ 128 → 10 ≤ u → n / u < 10 ^ 38
short-whole n u h t = (div-lt_iff_lt-mul {k = u} {x = n} {y = 10 ^ 38} (omega (arith, t))).1 (omega (arith, h, t))

next_above : (n b : ℕ) → n ≤ next_value n b
next_above n b = elim (cases_Bool (is_ascii_digit b)) [
  | inl digit ↦ rw digit (omega arith)
  | inr other ↦ rw other (omega arith)
]

pub digits_in-grows : (n : ℕ) (xs : List ℕ) → n ≤ digits_in n xs
unfolding digits_in
digits_in-grows n [] = omega arith
digits_in-grows n (b ∷ rest) = omega (arith, next_above n b, digits_in-grows (next_value n b) rest)

pub digits_in-end : (n : ℕ) → digits_in n [] ≡ n
unfolding digits_in
digits_in-end n = refl

pub digits_in-byte : (n b : ℕ) (rest : List ℕ) → digits_in n (b ∷ rest) ≡ digits_in (next_value n b) rest
unfolding digits_in
digits_in-byte n b rest = refl

pub digits_in-at : (n : ℕ) (xs : List ℕ) (i : ℕ) → i < length xs → digits_in n (drop i xs) ≡ digits_in (next_value n (get_or xs i 0)) (drop (i + 1) xs)
digits_in-at n xs i h = rw (add-one i, drop-cons xs i 0 h) (digits_in-byte n (get_or xs i 0) (drop (suc i) xs))

pub digits_in-append : (n : ℕ) (xs ys : List ℕ) → digits_in n (xs ++ ys) ≡ digits_in (digits_in n xs) ys
unfolding digits_in
digits_in-append n [] ys = refl
digits_in-append n (b ∷ rest) ys = digits_in-append (next_value n b) rest ys

pub next_digit : (n d : ℕ) → d < 10 → next_value n (48 + d) ≡ n * 10 + d
next_digit n d h = grind (arith, nat_tests)

pub digits_in-one : (n d : ℕ) → d < 10 → digits_in n ((48 + d) ∷ []) ≡ n * 10 + d
unfolding digits_in
digits_in-one n d h = next_digit n d h

pub digits_in-decimal : (n : ℕ) → n < 10 ^ 64 → digits_in 0 (decimal n) ≡ n
digits_in-decimal = decimal_by_steps_wide (λ m ds. digits_in 0 ds ≡ m) (λ m l. digits_in-one 0 m l ∙ omega arith)
    (λ m ds l h. digits_in-append 0 ds ((48 + m % 10) ∷ []) ∙ digits_in-one (digits_in 0 ds) (m % 10) (omega arith) ∙ rw h (omega arith))

one-more : (a x p q n : ℕ) → q ≡ 10 * p → n % (10 * p) ≡ x * p + n % p → (a * 10 + x) * p + n % p ≡ a * q + n % q
one-more a x p q n e low = rw (e, low, add-mul (a * 10) x p, mul_assoc a 10 p) (omega arith)

pub digits_in-last : (k a n : ℕ) → digits_in a (last_digits k n) ≡ a * 10 ^ k + n % 10 ^ k
unfolding digits_in last_digits
digits_in-last zero a n = omega arith
digits_in-last (suc k) a n =
    let p = 10 ^ k in
    let x = n / 10 ^ k % 10 in
    let above = power_above k in
    let next : next_value a (48 + n / 10 ^ k % 10) ≡ a * 10 + n / 10 ^ k % 10 = next_digit a (n / 10 ^ k % 10) (omega arith) in
    let more = digits_in-last k (a * 10 + n / 10 ^ k % 10) n in
    let low = mod-mul n {m = 10} {c = 10 ^ k} (omega arith) above in
    ap (λ z. digits_in z (last_digits k n)) next ∙ more ∙ one-more a (n / 10 ^ k % 10) (10 ^ k) (10 ^ suc k) n (pow-succ' 10 k) low

-- below zero or not, the sign is no digit
digits_in-sign : (v : ℤ) (rest : List ℕ) → digits_in 0 (sign v ++ rest) ≡ digits_in 0 rest
unfolding digits_in
digits_in-sign (pos n) rest = refl
digits_in-sign (negsuc n) rest = refl

digits_in-sign3 : (v : ℤ) (whole rest : List ℕ) → digits_in 0 (sign v ++ whole ++ rest) ≡ digits_in 0 (whole ++ rest)
digits_in-sign3 v whole rest = ap (digits_in 0) (append_assoc (sign v) whole rest) ∙ digits_in-sign v (whole ++ rest)

div-mod-whole : (n p : ℕ) → n / p * p + n % p ≡ n
div-mod-whole n p = rw (mul_comm (n / p) p) (omega arith)

digits_in-fraction : (d a n : ℕ) → n < 10 ^ d → digits_in a (fraction d n) ≡ a * 10 ^ d + n
unfolding digits_in
digits_in-fraction zero a n h = omega (arith, h)
digits_in-fraction (suc d) a n h = rw (ne_eqb (suc d) 0 (λ z. cc z)) (digits_in-last (suc d) a n ∙ ap (λ r. a * 10 ^ suc d + r) (mod-eq_of_lt h))

pub digits_in-text : (v : ℤ) (d : ℕ) → unsigned_abs v < 10 ^ 64 → digits_in 0 (fixed_text v d) ≡ unsigned_abs v
digits_in-text v d h =
    let u = unsigned_abs v in
    let above = power_above d in
    let whole = digits_in-decimal (unsigned_abs v / 10 ^ d) (omega (arith, h, div-le_self (unsigned_abs v) (10 ^ d))) in
    let part = digits_in-fraction d (unsigned_abs v / 10 ^ d) (unsigned_abs v % 10 ^ d) (mod-lt (unsigned_abs v) above) in
    digits_in-sign3 v (decimal (unsigned_abs v / 10 ^ d)) (fraction d (unsigned_abs v % 10 ^ d))
    ∙ digits_in-append 0 (decimal (unsigned_abs v / 10 ^ d)) (fraction d (unsigned_abs v % 10 ^ d))
    ∙ ap (λ z. digits_in z (fraction d (unsigned_abs v % 10 ^ d))) whole ∙ part ∙ div-mod-whole (unsigned_abs v) (10 ^ d)
