-- Vectors of two words each: the words in a row, and as bytes.
use Rattle.fit_sum.proofs.Common.{◌≡◌, ℕ, zero, suc, ◌+◌, ◌<◌, List, [], ◌∷◌, ◌++◌, length, take, get_or, refl, ap, ◌∙◌, arith, concat, append-nil}
use Rattle.fit_sum.proofs.Common.{to_le_bytes, w64, run, spelled, AllPairs}
use Rattle.std.specs.Prelude.{map}
use Rattle.fit_sum.proofs.Division.{run-append}
use Rattle.fit_sum.proofs.PiecesOfLists.{concat-turn}
use Rattle.fit_sum.proofs.SpelledWords.{spelled-append}

abbrev pub as_pair : List ℕ → List ℕ
as_pair pair = get_or pair 0 0 ∷ get_or pair 1 0 ∷ []

is_pair : (pair : List ℕ) → length pair ≡ 2 → pair ≡ as_pair pair
is_pair (a ∷ b ∷ []) is = refl
is_pair pair is = absurd (omega arith)

are_pairs : (pairs : List (List ℕ)) → AllPairs pairs → pairs ≡ map as_pair pairs
are_pairs [] all = refl
are_pairs (pair ∷ pairs) all = ap (λ t. t ∷ pairs) (is_pair pair all.0) ∙ ap (λ t. as_pair pair ∷ t) (are_pairs pairs all.1)

sixteen_lists : (xs : List (List ℕ)) → length xs ≡ 16
    → xs ≡ get_or xs 0 [] ∷ get_or xs 1 [] ∷ get_or xs 2 [] ∷ get_or xs 3 [] ∷ get_or xs 4 [] ∷ get_or xs 5 [] ∷ get_or xs 6 [] ∷ get_or xs 7 []
    ∷ get_or xs 8 [] ∷ get_or xs 9 [] ∷ get_or xs 10 [] ∷ get_or xs 11 [] ∷ get_or xs 12 [] ∷ get_or xs 13 [] ∷ get_or xs 14 [] ∷ get_or xs 15 [] ∷ []
sixteen_lists (a ∷ b ∷ c ∷ d ∷ e ∷ f ∷ g ∷ h ∷ i ∷ j ∷ k ∷ l ∷ m ∷ n ∷ o ∷ p ∷ []) is = refl
sixteen_lists xs is = absurd (omega arith)

pub sixteen_pairs : (xs : List (List ℕ)) → length xs ≡ 16 → AllPairs xs
    → xs ≡ as_pair (get_or xs 0 []) ∷ as_pair (get_or xs 1 []) ∷ as_pair (get_or xs 2 []) ∷ as_pair (get_or xs 3 []) ∷ as_pair (get_or xs 4 [])
    ∷ as_pair (get_or xs 5 []) ∷ as_pair (get_or xs 6 []) ∷ as_pair (get_or xs 7 []) ∷ as_pair (get_or xs 8 []) ∷ as_pair (get_or xs 9 [])
    ∷ as_pair (get_or xs 10 []) ∷ as_pair (get_or xs 11 []) ∷ as_pair (get_or xs 12 []) ∷ as_pair (get_or xs 13 []) ∷ as_pair (get_or xs 14 [])
    ∷ as_pair (get_or xs 15 []) ∷ []
sixteen_pairs xs is all = are_pairs xs all ∙ ap (map as_pair) (sixteen_lists xs is)

pair_at : (pairs : List (List ℕ)) (i : ℕ) → i < length pairs → AllPairs pairs → get_or pairs i [] ≡ as_pair (get_or pairs i [])
pair_at [] i h all = absurd (omega arith)
pair_at (pair ∷ pairs) zero h all = is_pair pair all.0
pair_at (pair ∷ pairs) (suc i) h all = pair_at pairs i (omega arith) all.1

-- one pair more
pub pair-turn : (register : ℕ) (pairs : List (List ℕ)) (i : ℕ) → i < length pairs → AllPairs pairs
    → run register (spelled (concat (take (i + 1) pairs)))
    ≡ run (run (run register (spelled (concat (take i pairs)))) (to_le_bytes w64 (get_or (get_or pairs i []) 0 0)))
    (to_le_bytes w64 (get_or (get_or pairs i []) 1 0))
unfolding spelled
pair-turn register pairs i h all =
    let before = concat (take i pairs) in
    let low = to_le_bytes w64 (get_or (get_or pairs i []) 0 0) in
    let high = to_le_bytes w64 (get_or (get_or pairs i []) 1 0) in
    ap (λ t. run register (spelled t)) (concat-turn pairs i h ∙ ap (λ t. concat (take i pairs) ++ t) (pair_at pairs i h all))
    ∙ ap (run register) (spelled-append before (as_pair (get_or pairs i [])) ∙ ap (λ t. spelled before ++ (low ++ t)) (append-nil high))
    ∙ run-append register (spelled before) (low ++ high)
    ∙ run-append (run register (spelled before)) low high
