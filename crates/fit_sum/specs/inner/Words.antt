-- Bytes as numbers, and the register of sixteen or thirty-two words.
use Rattle.std.specs.Prelude.{◌≡◌, ℕ, zero, suc, ◌+◌, ◌*◌, ◌^◌, List, [], ◌∷◌, ◌++◌, length, take, drop, bit_xor}
use Rattle.std.specs.Int.{to_le_bytes, w64}

-- the number of some bytes, the lowest first
unfoldable pub bytes_number : List ℕ → ℕ
bytes_number [] = 0
bytes_number (b ∷ bytes) = b + 2 ^ 8 * bytes_number bytes

-- k words of eight bytes, from word i on
unfoldable pub words_from : ℕ → ℕ → List ℕ → List ℕ
words_from i zero bytes = []
words_from i (suc k) bytes = bytes_number (take 8 (drop (8 * i) bytes)) ∷ words_from (suc i) k bytes

-- the bytes of some words, eight for each, the lowest first
unfoldable pub spelled : List ℕ → List ℕ
spelled [] = []
spelled (w ∷ words) = to_le_bytes w64 w ++ spelled words

-- two lists of words, added word by word
unfoldable pub mix : List ℕ → List ℕ → List ℕ
mix [] ys = []
mix (x ∷ xs) [] = []
mix (x ∷ xs) (y ∷ ys) = bit_xor x y ∷ mix xs ys

-- w added to word i
unfoldable pub xor_into : ℕ → ℕ → List ℕ → List ℕ
xor_into i w [] = []
xor_into zero w (y ∷ ys) = bit_xor y w ∷ ys
xor_into (suc i) w (y ∷ ys) = y ∷ xor_into i w ys

-- the other words, once w was shifted out and added in three places: two of them, and behind them all
unfoldable pub turn : ℕ → ℕ → ℕ → List ℕ → List ℕ
turn near far w ys = xor_into near w (xor_into far w ys) ++ w ∷ []

-- n words shifted out
unfoldable pub turns : ℕ → ℕ → ℕ → List ℕ → List ℕ
turns near far zero words = words
turns near far (suc n) [] = []
turns near far (suc n) (w ∷ ys) = turns near far n (turn near far w ys)

-- Vectors of two words each. Over all of them, words of 128 bits lie in pairs of words.
abbrev pub AllPairs : List (List ℕ) → Type 0
AllPairs [] = Unit {0}
AllPairs (pair ∷ pairs) = (length pair ≡ 2) × AllPairs pairs
