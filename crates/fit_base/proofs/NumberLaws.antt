-- Bytes and their number determine each other.
use Rattle.fit_base.proofs.Common.{◌≡◌, ℕ, zero, suc, ◌+◌, ◌*◌, ◌/◌, ◌%◌, ◌^◌, ◌<◌, ◌↔◌, List, [], ◌∷◌, length, refl, sym, ap, ◌∙◌, subst, lit<, arith, reverse}
use Rattle.fit_base.proofs.Common.{reverse-reverse, length-reverse, pow-suc, Order, Little, Big, NumbersAndBytes, IsBytes, little, number, little_bytes}
use Rattle.fit_base.proofs.Common.{number_bytes}
use Rattle.fit_base.proofs.ByteLists.{IsBytes-reverse}
use Rattle.fit_base.proofs.Bytes.{length-number_bytes, number-number_bytes}

IsBytes-little_bytes : (w n : ℕ) → IsBytes (little_bytes w n)
IsBytes-little_bytes zero n i = lit< tt
IsBytes-little_bytes (suc w) n zero = omega arith
IsBytes-little_bytes (suc w) n (suc i) = IsBytes-little_bytes w (n / 256) i

pub IsBytes-number_bytes : (o : Order) (w n : ℕ) → IsBytes (number_bytes o w n)
IsBytes-number_bytes Little w n = IsBytes-little_bytes w n
IsBytes-number_bytes Big w n = IsBytes-reverse (little_bytes w n) (IsBytes-little_bytes w n)

little-below : (a : List ℕ) → IsBytes a → little a < 256 ^ length a
little-below [] p = lit< tt
little-below (x ∷ a) p =
    let first : x < 256 = p 0 in
    let rest : little a < 256 ^ length a = little-below a (λ k. p (suc k)) in
    rw pow-suc (omega (arith, first, rest))

little_bytes-little : (a : List ℕ) → IsBytes a → little_bytes (length a) (little a) ≡ a
little_bytes-little [] p = refl
little_bytes-little (x ∷ a) p =
    let first : x < 256 = p 0 in
    let low : (x + 256 * little a) % 256 ≡ x = omega (arith, first) in
    let high : (x + 256 * little a) / 256 ≡ little a = omega (arith, first) in
    rw (low, high, little_bytes-little a (λ k. p (suc k))) refl

-- the number of as many bytes as a width has is below 256 ^ width
pub number-below : (o : Order) (a : List ℕ) → IsBytes a → number o a < 256 ^ length a
number-below Little a p = little-below a p
number-below Big a p = subst (λ n. little (reverse a) < 256 ^ n) (length-reverse a) (little-below (reverse a) (IsBytes-reverse a p))

pub number_bytes-number : (o : Order) (a : List ℕ) → IsBytes a → number_bytes o (length a) (number o a) ≡ a
number_bytes-number Little a p = little_bytes-little a p
number_bytes-number Big a p =
    ap (λ n. reverse (little_bytes n (little (reverse a)))) (sym (length-reverse a))
    ∙ ap reverse (little_bytes-little (reverse a) (IsBytes-reverse a p)) ∙ reverse-reverse a

one_number : (o : Order) (w n : ℕ) (a : List ℕ) → IsBytes a → length a ≡ w → (n ≡ number o a) ↔ ((n < 256 ^ w) × (a ≡ number_bytes o w n))
one_number o w n a p l = (
  (λ e. (
    subst (λ m. m < 256 ^ w) (sym e) (subst (λ k. number o a < 256 ^ k) l (number-below o a p)),
    sym (number_bytes-number o a p) ∙ ap (λ k. number_bytes o k (number o a)) l ∙ ap (number_bytes o w) (sym e),
  )),
  (λ h. sym (number-number_bytes o w n h.0) ∙ ap (number o) (sym h.1)),
)

pub numbers_and_bytes : NumbersAndBytes
numbers_and_bytes = record { are_bytes = IsBytes-number_bytes; as_long = length-number_bytes; one_number = one_number }
