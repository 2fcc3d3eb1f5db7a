-- Lists of bytes, and their parts.
use Rattle.fit_base.proofs.Common.{ℕ, zero, suc, ◌<◌, List, [], ◌∷◌, ◌++◌, length, take, drop, get_or, replicate, sym, subst, lit<, arith, Fits, w8, reverse}
use Rattle.fit_base.proofs.Common.{take-append_seam, drop-append_seam, reverse-append, IsBytes}

pub IsBytes-none : IsBytes []
IsBytes-none i = lit< tt

pub IsBytes-cons : (x : ℕ) (xs : List ℕ) → x < 256 → IsBytes xs → IsBytes (x ∷ xs)
IsBytes-cons x xs p q zero = p
IsBytes-cons x xs p q (suc i) = q i

pub IsBytes-tail : (x : ℕ) (xs : List ℕ) → IsBytes (x ∷ xs) → IsBytes xs
IsBytes-tail x xs p i = p (suc i)

pub IsBytes-append : (a b : List ℕ) → IsBytes a → IsBytes b → IsBytes (a ++ b)
IsBytes-append [] b p q i = q i
IsBytes-append (x ∷ a) b p q zero = p 0
IsBytes-append (x ∷ a) b p q (suc i) = IsBytes-append a b (λ k. p (suc k)) q i

pub IsBytes-take : (n : ℕ) (a : List ℕ) → IsBytes a → IsBytes (take n a)
IsBytes-take zero a p i = lit< tt
IsBytes-take (suc n) [] p i = lit< tt
IsBytes-take (suc n) (x ∷ a) p zero = p 0
IsBytes-take (suc n) (x ∷ a) p (suc i) = IsBytes-take n a (λ k. p (suc k)) i

pub IsBytes-drop : (n : ℕ) (a : List ℕ) → IsBytes a → IsBytes (drop n a)
IsBytes-drop zero a p = p
IsBytes-drop (suc n) [] p = p
IsBytes-drop (suc n) (x ∷ a) p = IsBytes-drop n a (λ k. p (suc k))

pub IsBytes-front : (a b : List ℕ) → IsBytes (a ++ b) → IsBytes a
IsBytes-front a b are = subst IsBytes (take-append_seam a b) (IsBytes-take (length a) (a ++ b) are)

pub IsBytes-back : (a b : List ℕ) → IsBytes (a ++ b) → IsBytes b
IsBytes-back a b are = subst IsBytes (drop-append_seam a b) (IsBytes-drop (length a) (a ++ b) are)

pub IsBytes-reverse : (a : List ℕ) → IsBytes a → IsBytes (reverse a)
IsBytes-reverse [] p = p
IsBytes-reverse (x ∷ a) p = subst IsBytes (sym (reverse-append (x ∷ []) a))
    (IsBytes-append (reverse a) (x ∷ []) (IsBytes-reverse a (λ k. p (suc k))) (IsBytes-cons x [] (p 0) IsBytes-none))

pub IsBytes-zeros : (n : ℕ) → IsBytes (replicate n 0)
IsBytes-zeros zero = IsBytes-none
IsBytes-zeros (suc n) = IsBytes-cons 0 (replicate n 0) (lit< tt) (IsBytes-zeros n)

-- the bytes of the code's slices
pub slice_is_bytes : (bytes : List ℕ) → ((k : ℕ) → Fits w8 (get_or bytes k 0)) → IsBytes bytes
slice_is_bytes bytes h k = let fits : Fits w8 (get_or bytes k 0) = h k in omega arith
