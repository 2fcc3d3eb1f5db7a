-- An item of a field is the number of its piece of the field's bytes.
use Rattle.fit_base.proofs.Common.{◌≡◌, ℕ, zero, suc, ◌+◌, ◌*◌, ◌^◌, ◌<◌, List, [], ◌∷◌, ◌++◌, length, take, drop, refl, sym, ap, ◌∙◌, subst, arith, flat_map}
use Rattle.fit_base.proofs.Common.{slice_index, AllByRecursion, suc-mul, take-append_seam, drop-append-add, take-append-drop, length-take-le, length-drop}
use Rattle.fit_base.proofs.Common.{Order, ItemsAndBytes, IsBytes, number, number_bytes}
use Rattle.fit_base.proofs.Bytes.{length-number_bytes, number-number_bytes}
use Rattle.fit_base.proofs.NumberLaws.{number-below, number_bytes-number}
use Rattle.fit_base.proofs.ShapeTests.{length-items_bytes}
use Rattle.fit_base.proofs.ByteLists.{IsBytes-take, IsBytes-drop}

-- each number is that of a piece
abbrev ArePieces : Order → ℕ → List ℕ → List ℕ → Type 0
ArePieces o w ns bytes = (k : ℕ) → k < length ns → slice_index ns k ≡ number o (take w (drop (k * w) bytes))

drop-none : {X : Type 0} → (n : ℕ) → drop {A = X} n [] ≡ []
drop-none zero = refl
drop-none (suc n) = refl

drop-drop : {X : Type 0} → (a b : ℕ) (xs : List X) → drop a (drop b xs) ≡ drop (b + a) xs
drop-drop a zero xs = let same : a ≡ 0 + a = omega arith in ap (λ n. drop n xs) same
drop-drop a (suc b) [] = drop-none a ∙ sym (drop-none (suc b + a))
drop-drop a (suc b) (x ∷ xs) = let same : suc (b + a) ≡ suc b + a = omega arith in drop-drop a b xs ∙ ap (λ n. drop n (x ∷ xs)) same

-- the pieces of bytes are those of numbers spelled one after another
pieces_of_numbers : (o : Order) (w : ℕ) (ns : List ℕ) → AllByRecursion (λ n. n < 256 ^ w) ns → ArePieces o w ns (flat_map (number_bytes o w) ns)
pieces_of_numbers o w [] h k below = absurd (omega (arith, below))
pieces_of_numbers o w (n ∷ ns) h zero below =
    let rest = flat_map (number_bytes o w) ns in
    let none : 0 * w ≡ 0 = omega arith in
    sym (ap (λ d. number o (take w (drop d (number_bytes o w n ++ rest)))) none
    ∙ ap (λ l. number o (take l (number_bytes o w n ++ rest))) (sym (length-number_bytes o w n))
    ∙ ap (number o) (take-append_seam (number_bytes o w n) rest)
    ∙ number-number_bytes o w n h.0)
pieces_of_numbers o w (n ∷ ns) h (suc k) below =
    let rest = flat_map (number_bytes o w) ns in
    let place : suc k * w ≡ length (number_bytes o w n) + k * w = suc-mul k w ∙ omega (arith, length-number_bytes o w n) in
    pieces_of_numbers o w ns h.1 k (omega (arith, below))
    ∙ sym (ap (λ d. number o (take w (drop d (number_bytes o w n ++ rest)))) place
    ∙ ap (λ b. number o (take w b)) (drop-append-add (number_bytes o w n) rest (k * w)))

empty : (a : List ℕ) → length a ≡ 0 → a ≡ []
empty [] h = refl
empty (x ∷ a) h = absurd (omega (arith, h))

-- numbers of the pieces of bytes fit, and spell the bytes
numbers_of_pieces :
    (o : Order) (w : ℕ) (ns bytes : List ℕ) → IsBytes bytes → length bytes ≡ length ns * w → ArePieces o w ns bytes →
    AllByRecursion (λ n. n < 256 ^ w) ns × (bytes ≡ flat_map (number_bytes o w) ns)
numbers_of_pieces o w [] bytes b l p = (tt, empty bytes (l ∙ omega arith))
numbers_of_pieces o w (n ∷ ns) bytes b l p =
    let long : length bytes ≡ w + length ns * w = l ∙ suc-mul (length ns) w ∙ omega arith in
    let piece = take w bytes in
    let rest = drop w bytes in
    let none : 0 * w ≡ 0 = omega arith in
    let first : n ≡ number o piece = p 0 (omega arith) ∙ ap (λ d. number o (take w (drop d bytes))) none in
    let wide : length piece ≡ w = length-take-le w bytes (omega (arith, long)) in
    let piece_bytes : IsBytes piece = IsBytes-take w bytes b in
    let others : AllByRecursion (λ n. n < 256 ^ w) ns × (rest ≡ flat_map (number_bytes o w) ns) =
    numbers_of_pieces o w ns rest (IsBytes-drop w bytes b) (length-drop w bytes ∙ omega (arith, long))
    (λ k below.
    let place : suc k * w ≡ w + k * w = suc-mul k w ∙ omega arith in
    p (suc k) (omega (arith, below)) ∙ ap (λ d. number o (take w (drop d bytes))) place ∙ ap (λ s. number o (take w s)) (sym (drop-drop (k * w) w bytes)))
    in
    let spelled : piece ≡ number_bytes o w n =
    sym (number_bytes-number o piece piece_bytes) ∙ ap (λ k. number_bytes o k (number o piece)) wide ∙ ap (number_bytes o w) (sym first) in
    let fits : n < 256 ^ w = subst (λ m. m < 256 ^ w) (sym first) (subst (λ k. number o piece < 256 ^ k) wide (number-below o piece piece_bytes)) in
    ((fits, others.0), sym (take-append-drop w bytes) ∙ ap (λ q. q ++ rest) spelled ∙ ap (λ q. number_bytes o w n ++ q) others.1)

pub items_and_bytes : {A : Type 0} → ItemsAndBytes A
items_and_bytes o code size items bytes b = (
  (λ f. let r = numbers_of_pieces o items.width items.bits bytes b (f.as_long ∙ sym f.whole) f.pieces in
      (record { width = f.width; whole = f.whole; fits = r.0 }, r.1)),
  (λ h. record {
    as_long = ap length h.1 ∙ length-items_bytes o code size items h.0;
    width = h.0.width;
    whole = h.0.whole;
    pieces = subst (ArePieces o items.width items.bits) (sym h.1) (pieces_of_numbers o items.width items.bits h.0.fits);
  }),
)
