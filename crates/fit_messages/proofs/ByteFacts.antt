-- The lowest bytes of numbers, and bytes that are put.
use Rattle.std.proofs.Common.{◌≡◌, ◌∙◌, ℕ, zero, suc, ◌*◌, ◌+◌, ◌/◌, ◌%◌, ◌^◌, ◌<◌, ◌≤◌, List, ◌∷◌, ◌++◌, refl, ap, ap₂, take, arith, append_assoc, lit<}
use Rattle.std.proofs.Math.Arith.{mod-mul}
use Rattle.std.proofs.Math.Nat.{pow-suc}
use Rattle.std.specs.Prelude.{Result, Ok, Err, OnOk, if◌then◌else◌}
use Rattle.std.specs.Result.{is_ok}
use Rattle.fit_base.specs.Numbers.{little_bytes}
unfoldable use Rattle.fit_messages.specs.Blocks.{low}

-- what a call puts where it succeeds
pub put_ok : {E : Type 0} (result : Result (Unit {0}) E) (old new more want : List ℕ) → new ≡ (if is_ok result then old ++ more else old) → more ≡ want
    → OnOk result (new ≡ old ++ want)
put_ok (Ok u) old new more want put same = put ∙ ap (λ bytes. old ++ bytes) same
put_ok (Err e) old new more want put same = tt

take_little : (w v n : ℕ) → w ≤ v → take w (little_bytes v n) ≡ little_bytes w n
take_little zero v n few = refl
take_little (suc w) zero n few = absurd (omega (arith, few))
take_little (suc w) (suc v) n few = ap (λ bytes. n % 256 ∷ bytes) (take_little w v (n / 256) (omega (arith, few)))

-- the first of eight bytes
pub low_taken : (w n : ℕ) → w ≤ 8 → take w (little_bytes 8 n) ≡ low w n
unfolding low
low_taken w n few = take_little w 8 n few

powers_positive : (w : ℕ) → 0 < 256 ^ w
powers_positive zero = lit< tt
powers_positive (suc w) = omega (arith, pow-suc 256 w, powers_positive w)

-- the lowest bytes of a number are those of its rest
little_again : (w n : ℕ) → little_bytes w (n % 256 ^ w) ≡ little_bytes w n
little_again zero n = refl
little_again (suc w) n =
    let m = 256 ^ w in
    let x = n % 256 ^ suc w in
    let all : x ≡ (n / 256 % m) * 256 + n % 256 = ap (λ k. n % k) (pow-suc 256 w) ∙ mod-mul n (powers_positive w) (lit< tt) in
    let head : x % 256 ≡ n % 256 = omega (arith, all) in
    let tail : x / 256 ≡ n / 256 % m = omega (arith, all) in
    ap₂ (λ b bytes. b ∷ bytes) head (ap (little_bytes w) tail ∙ little_again w (n / 256))

pub low_again : (n : ℕ) → low 8 (n % 2 ^ 64) ≡ low 8 n
unfolding low
low_again n = little_again 8 n

-- bytes that are put one after another
pub after : (a x y b c : List ℕ) → b ≡ a ++ x → c ≡ b ++ y → c ≡ a ++ (x ++ y)
after a x y b c first second = second ∙ ap (λ bytes. bytes ++ y) first ∙ append_assoc a x y
