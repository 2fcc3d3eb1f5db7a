-- A list cut into pieces of one length, and loops over bytes and pieces.
use Rattle.fit_sum.proofs.Common.{◌≡◌, ℕ, zero, suc, ◌+◌, ◌*◌, ◌<◌, List, [], ◌∷◌, ◌++◌, length, take, drop, get_or, refl, ap}
use Rattle.fit_sum.proofs.Common.{sym, ◌∙◌, ◌-◌, arith, add-one, take_all}
use Rattle.fit_sum.proofs.Common.{append_assoc, drop-drop, bit_xor, concat, first_chunks, take-suc, take-append-drop, append-nil, concat-append, shifts, run}
use Rattle.fit_sum.proofs.Division.{run-append}

pub chunks-whole : (n k : ℕ) (xs : List ℕ) → concat (first_chunks n k xs) ++ drop (k * n) xs ≡ xs
chunks-whole n zero xs = let e : 0 * n ≡ 0 = omega arith in rw e refl
chunks-whole n (suc k) xs =
    let count : suc k * n ≡ n + k * n = grind arith in
    rw (count, append_assoc, ← drop-drop)
    (ap (λ t. take n xs ++ t) (chunks-whole n k (drop n xs)) ∙ take-append-drop n xs)

pub concat-turn : (xss : List (List ℕ)) (i : ℕ) → i < length xss → concat (take (i + 1) xss) ≡ concat (take i xss) ++ get_or xss i []
concat-turn xss i h = rw (add-one, take-suc xss i [] h)
    (concat-append (take i xss) (get_or xss i [] ∷ []) ∙ ap (λ t. concat (take i xss) ++ t) (append-nil (get_or xss i [])))

pub run-none : (register : ℕ) → run register [] ≡ register
unfolding run
run-none register = refl

-- one byte more
pub run-byte : (register : ℕ) (bytes : List ℕ) (i : ℕ) → i < length bytes
    → run register (take (i + 1) bytes) ≡ shifts 8 (bit_xor (run register (take i bytes)) (get_or bytes i 0))
unfolding run
run-byte register bytes i h = rw (add-one, take-suc bytes i 0 h) (run-append register (take i bytes) (get_or bytes i 0 ∷ []))

-- one piece more
pub run-piece : (register : ℕ) (xss : List (List ℕ)) (i : ℕ) → i < length xss
    → run register (concat (take (i + 1) xss)) ≡ run (run register (concat (take i xss))) (get_or xss i [])
run-piece register xss i h = ap (run register) (concat-turn xss i h) ∙ run-append register (concat (take i xss)) (get_or xss i [])

-- pieces of n bytes, the last of them named, and a rest
pub run-pieces : (n k register : ℕ) (bytes : List ℕ) (xss : List (List ℕ)) (rest : List ℕ) → 0 < length xss → xss ≡ first_chunks n k bytes
    → rest ≡ drop (k * n) bytes
    → run (run register (concat (take (length xss - 1) xss) ++ get_or xss (length xss - 1) [])) rest ≡ run register bytes
run-pieces n k register bytes xss rest some front back =
    let i = length xss - 1 in
    let last : length xss - 1 < length xss = omega (arith, some) in
    let all : take (length xss - 1 + 1) xss ≡ xss = take_all (i + 1) xss (omega (arith, some)) in
    let joined : concat (take (length xss - 1) xss) ++ get_or xss (length xss - 1) [] ≡ concat (first_chunks n k bytes)
    = sym (concat-turn xss i last) ∙ ap concat (all ∙ front) in
    ap (λ t. run (run register t) rest) joined
    ∙ sym (run-append register (concat (first_chunks n k bytes)) rest)
    ∙ ap (λ t. run register (concat (first_chunks n k bytes) ++ t)) back
    ∙ ap (run register) (chunks-whole n k bytes)
