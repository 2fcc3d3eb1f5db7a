-- What hexadecimal digits read as.
use Rattle.fit_cells.proofs.Common.{◌≡◌, ◌∙◌, ℕ, zero, suc, ◌+◌, ◌-◌, ◌*◌, ◌/◌, ◌%◌, ◌^◌, ◌<◌, ◌≤◌, List, [], ◌∷◌, ◌++◌, length, take, drop, get_or, flat_map}
use Rattle.fit_cells.proofs.Common.{All, refl, sym, ap, ap₂, subst, arith, append_assoc, drop-cons, add-one, mul_assoc, pow-suc, pow-succ', add-mul}
use Rattle.fit_cells.proofs.Common.{mod-eq_of_lt, nat_tests, AllByRecursion, recursion_from_All, hex_digit, hex_digits, bytes_text, hex_value, read_hex}
use Rattle.fit_cells.proofs.Common.{read_pairs}
use Rattle.std.proofs.Common.{append-nil}
use Rattle.std.proofs.Math.Arith.{mod-mul}

pub value_of_digit : (d : ℕ) → d < 16 → hex_value (hex_digit d) ≡ d
value_of_digit d h = grind (arith, nat_tests)

sixteen_above : (k : ℕ) → 0 < 16 ^ k
sixteen_above zero = omega arith
sixteen_above (suc k) = let h = sixteen_above k in rw (pow-suc 16 k) (omega (arith, h))

pub sixteen_grows : (k d : ℕ) → 16 ^ k ≤ 16 ^ (k + d)
sixteen_grows k zero = let e : k + 0 ≡ k = omega arith in rw e (omega arith)
sixteen_grows k (suc d) =
    let e : k + suc d ≡ suc (k + d) = omega arith in
    let h = sixteen_grows k d in
    rw (e, pow-suc 16 (k + d)) (omega (arith, h))

-- a number of fewer than sixteen digits has room for one more
pub room : (n k v : ℕ) → n < 16 ^ k → k < 16 → v < 16 → n * 16 + v < 2 ^ 64
room n k v h small low =
    let some : k + (15 - k) ≡ 15 = omega arith in
    let grown : 16 ^ k ≤ 16 ^ 15 = subst (λ m. 16 ^ k ≤ 16 ^ m) some (sixteen_grows k (15 - k)) in
    omega (arith, grown)

pub below_next : (n k v : ℕ) → n < 16 ^ k → v < 16 → n * 16 + v < 16 ^ (k + 1)
below_next n k v h low = rw (add-one k, pow-suc 16 k) (omega arith)

pub read_hex-end : (n : ℕ) → read_hex n [] ≡ n
unfolding read_hex
read_hex-end n = refl

pub read_hex-at : (n : ℕ) (xs : List ℕ) (i : ℕ) → i < length xs → read_hex n (drop i xs) ≡ read_hex (n * 16 + hex_value (get_or xs i 0)) (drop (i + 1) xs)
unfolding read_hex
read_hex-at n xs i h = rw (add-one i, drop-cons xs i 0 h) refl

one-more : (a x p q n : ℕ) → q ≡ 16 * p → n % (16 * p) ≡ x * p + n % p → (a * 16 + x) * p + n % p ≡ a * q + n % q
one-more a x p q n e low = rw (e, low, add-mul (a * 16) x p, mul_assoc a 16 p) (omega arith)

read_hex-digits : (k a n : ℕ) → read_hex a (hex_digits k n) ≡ a * 16 ^ k + n % 16 ^ k
unfolding read_hex hex_digits
read_hex-digits zero a n = omega arith
read_hex-digits (suc k) a n =
    let above = sixteen_above k in
    let next : a * 16 + hex_value (hex_digit (n / 16 ^ k % 16)) ≡ a * 16 + n / 16 ^ k % 16 =
    ap (λ v. a * 16 + v) (value_of_digit (n / 16 ^ k % 16) (omega arith)) in
    let more = read_hex-digits k (a * 16 + n / 16 ^ k % 16) n in
    let low = mod-mul n {m = 16} {c = 16 ^ k} (omega arith) above in
    ap (λ z. read_hex z (hex_digits k n)) next ∙ more ∙ one-more a (n / 16 ^ k % 16) (16 ^ k) (16 ^ suc k) n (pow-succ' 16 k) low

-- a number's digits read as the number
pub digits-read : (k n : ℕ) → n < 16 ^ k → read_hex 0 (hex_digits k n) ≡ n
digits-read k n h = read_hex-digits k 0 n ∙ (let e = mod-eq_of_lt h in omega (arith, e))

pub length-hex_digits : (k n : ℕ) → length (hex_digits k n) ≡ k
unfolding hex_digits
length-hex_digits zero n = refl
length-hex_digits (suc k) n = ap suc (length-hex_digits k n)

pub read_pairs-none : (text : List ℕ) → read_pairs 0 text ≡ []
unfolding read_pairs
read_pairs-none text = refl

pub read_pairs-next : (count k : ℕ) (text : List ℕ) → k < count
    → read_pairs (count - k) text ≡ read_hex 0 (take 2 text) ∷ read_pairs (count - (k + 1)) (drop 2 text)
unfolding read_pairs
read_pairs-next count k text h = let this : count - k ≡ suc (count - (k + 1)) = omega (arith, h) in rw this refl

-- one more pair
pub pairs-more : (bits whole text : List ℕ) (count k x : ℕ) → k < count → x ≡ read_hex 0 (take 2 text) → bits ++ read_pairs (count - k) text ≡ whole
    → (bits ++ (x ∷ [])) ++ read_pairs (count - (k + 1)) (drop 2 text) ≡ whole
pairs-more bits whole text count k x h is e =
    append_assoc bits (x ∷ []) (read_pairs (count - (k + 1)) (drop 2 text)) ∙ ap (λ y. bits ++ (y ∷ read_pairs (count - (k + 1)) (drop 2 text))) is
    ∙ ap (λ ds. bits ++ ds) (sym (read_pairs-next count k text h)) ∙ e

pub pairs-end : (bits whole text : List ℕ) (count k : ℕ) → count ≤ k → bits ++ read_pairs (count - k) text ≡ whole → bits ≡ whole
pairs-end bits whole text count k h e =
    let none : count - k ≡ 0 = omega (arith, h) in
    sym (append-nil bits) ∙ ap (λ ds. bits ++ ds) (sym (ap (λ n. read_pairs n text) none ∙ read_pairs-none text)) ∙ e

-- bytes shown two digits each read as those bytes
bytes-read : (bytes : List ℕ) → AllByRecursion (λ b. b < 256) bytes → read_pairs (length bytes) (flat_map (λ b. hex_digits 2 b) bytes) ≡ bytes
unfolding read_pairs hex_digits
bytes-read [] h = refl
bytes-read (b ∷ bytes) h = ap₂ (λ x xs. x ∷ xs) (digits-read 2 b h.0) (bytes-read bytes h.1)

pub bytes-shown : (bytes text : List ℕ) (count : ℕ) → text ≡ bytes_text bytes → length bytes ≡ count → All (λ b. b < 256) bytes
    → read_pairs count (drop 2 text) ≡ bytes
bytes-shown bytes text count e long small = ap₂ (λ n t. read_pairs n (drop 2 t)) (sym long) e ∙ bytes-read bytes (recursion_from_All (λ b. b < 256) bytes small)

pub length-pairs : (count : ℕ) (text : List ℕ) → length (read_pairs count text) ≡ count
unfolding read_pairs
length-pairs zero text = refl
length-pairs (suc count) text = ap suc (length-pairs count (drop 2 text))

pub sixteen-squared : (w : ℕ) → 16 ^ (2 * w) ≡ 256 ^ w
sixteen-squared zero = refl
sixteen-squared (suc w) =
    let two : 2 * suc w ≡ suc (suc (2 * w)) = omega arith in
    let h = sixteen-squared w in
    rw (two, pow-suc, pow-suc, pow-suc 256 w) (omega (arith, h))

-- the digits of a float read as its bits
pub float-length : (text : List ℕ) (w bits : ℕ) → text ≡ 48 ∷ 120 ∷ hex_digits (2 * w) bits → length text ≡ 2 + 2 * w
float-length text w bits e = let l = length-hex_digits (2 * w) bits in rw e (omega (arith, l))

pub float-read : (text : List ℕ) (w bits : ℕ) → bits < 256 ^ w → text ≡ 48 ∷ 120 ∷ hex_digits (2 * w) bits → read_hex 0 (drop 2 text) ≡ bits
float-read text w bits h e = ap (λ t. read_hex 0 (drop 2 t)) e ∙ digits-read (2 * w) bits (rw (sixteen-squared w) h)
