-- How the register and the bytes added grow together.
use Rattle.fit_sum.proofs.Common.{◌≡◌, ℕ, suc, ◌<◌, List, [], ◌∷◌, ◌++◌, get_or, Fits, w8, ap, sym, ◌∙◌, arith, run, AllBytes, IsSumOf}
use Rattle.fit_sum.proofs.Division.{run-checksum, run-append}

pub IsBytes-fits : (bytes : List ℕ) → ((k : ℕ) → Fits w8 (get_or bytes k 0)) → AllBytes bytes
IsBytes-fits [] h = tt
IsBytes-fits (b ∷ bytes) h = (let fits : Fits w8 b = h 0 in omega arith, IsBytes-fits bytes (λ k. h (suc k)))

pub IsBytes-below : (bytes : List ℕ) → ((k : ℕ) → get_or bytes k 0 < 256) → AllBytes bytes
IsBytes-below [] h = tt
IsBytes-below (b ∷ bytes) h = (h 0, IsBytes-below bytes (λ k. h (suc k)))

pub IsBytes-append : (xs ys : List ℕ) → AllBytes xs → AllBytes ys → AllBytes (xs ++ ys)
IsBytes-append [] ys p q = q
IsBytes-append (x ∷ xs) ys p q = (p.0, IsBytes-append xs ys p.1 q)

pub IsSumOf-none : IsSumOf 0 []
unfolding run
IsSumOf-none = (tt, run-checksum [] tt)

pub IsSumOf-append : (register : ℕ) (added bytes : List ℕ) → AllBytes bytes → IsSumOf register added → IsSumOf (run register bytes) (added ++ bytes)
IsSumOf-append register added bytes h sum =
    let both = IsBytes-append added bytes sum.0 h in
    let before : register ≡ run 0 added = sum.1 ∙ sym (run-checksum added sum.0) in
    (both, ap (λ t. run t bytes) before ∙ sym (run-append 0 added bytes) ∙ run-checksum (added ++ bytes) both)
