-- Words spelled as bytes.
use Rattle.fit_sum.proofs.Common.{◌≡◌, ℕ, ◌+◌, ◌*◌, ◌^◌, ◌<◌, List, [], ◌∷◌, ◌++◌, length, refl, ap, sym, ◌∙◌, arith, append_assoc}
use Rattle.fit_sum.proofs.Common.{to_le_bytes, w64, from_le_bytes-to_le_bytes_8, run, AllBytes, bytes_number, spelled}
use Rattle.fit_sum.proofs.RegisterOfAdded.{IsBytes-append}
use Rattle.fit_sum.proofs.TurnsAreShifts.{IsWords, joined}
use Rattle.fit_sum.proofs.BytesOfWords.{number-none, number-eight, number-append}

number-word : (w : ℕ) → w < 2 ^ 64 → bytes_number (to_le_bytes w64 w) ≡ w
number-word w h = number-eight _ _ _ _ _ _ _ _ ∙ from_le_bytes-to_le_bytes_8 w h

IsBytes-word : (w : ℕ) → AllBytes (to_le_bytes w64 w)
IsBytes-word w = (omega arith, (omega arith, (omega arith, (omega arith, (omega arith, (omega arith, (omega arith, (omega arith, tt))))))))

pub IsBytes-spelled : (words : List ℕ) → AllBytes (spelled words)
unfolding spelled
IsBytes-spelled [] = tt
IsBytes-spelled (w ∷ words) = IsBytes-append (to_le_bytes w64 w) (spelled words) (IsBytes-word w) (IsBytes-spelled words)

pub length-spelled : (words : List ℕ) → length (spelled words) ≡ 8 * length words
unfolding spelled
length-spelled [] = refl
length-spelled (w ∷ words) = omega (arith, length-spelled words)

pub number-spelled : (words : List ℕ) → IsWords words → bytes_number (spelled words) ≡ joined words
unfolding spelled joined
number-spelled [] h = number-none
number-spelled (w ∷ words) h =
    number-append (to_le_bytes w64 w) (spelled words)
    ∙ ap (λ n. n + 2 ^ 64 * bytes_number (spelled words)) (number-word w h.0)
    ∙ ap (λ n. w + 2 ^ 64 * n) (number-spelled words h.1)

pub spelled-append : (xs ys : List ℕ) → spelled (xs ++ ys) ≡ spelled xs ++ spelled ys
unfolding spelled
spelled-append [] ys = refl
spelled-append (x ∷ xs) ys = ap (λ t. to_le_bytes w64 x ++ t) (spelled-append xs ys) ∙ sym (append_assoc (to_le_bytes w64 x) (spelled xs) (spelled ys))

pub spelled-none : 0 ≡ run 0 (spelled [])
unfolding run spelled
spelled-none = refl
