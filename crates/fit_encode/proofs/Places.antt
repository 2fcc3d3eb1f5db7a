-- Bytes that are written into a slice, one part after another.
use Rattle.fit_encode.proofs.Common.{◌≡◌, ℕ, ◌<◌, ◌≤◌, List, ◌∷◌, ◌++◌, length, take, drop, get_or, refl, sym, ap, ◌∙◌, append_assoc, length-append, arith}
use Rattle.fit_encode.proofs.Common.{flat_map, little_bytes, length-little_bytes, ◌/◌, ◌%◌}
use Rattle.std.proofs.Common.{◌+◌, zero, suc}
use Rattle.std.proofs.Math.Seq.{take-append-add, take-append_seam}
use Rattle.std.proofs.lemmas.List.{take-take, length-take-le}
use Rattle.fit_encode.proofs.Sendings.{next_part_of, parts_of}

-- the lowest bytes of a number are the first of those of a wider one
number_front : (w k n : ℕ) → w ≤ k → take w (little_bytes k n) ≡ little_bytes w n
number_front zero k n h = refl
number_front (suc w) zero n h = absurd (omega arith)
number_front (suc w) (suc k) n h = ap (λ (xs : List ℕ). n % 256 ∷ xs) (number_front w k (n / 256) (omega arith))

-- a number that was written with more bytes after it
pub number_of_eight : (w n at end : ℕ) (old new eight : List ℕ) → w ≤ 8 → at ≤ length old → eight ≡ little_bytes 8 n → end ≡ at + length eight
    → take end new ≡ take at old ++ eight → take (at + w) new ≡ take at old ++ little_bytes w n
number_of_eight w n at end old new eight small room is ends written =
    let front : List ℕ = take at old in
    let long : length front ≡ at = length-take-le at old room in
    sym (take-take (at + w) end new (omega (arith, ends, ap length is, length-little_bytes 8 n))) ∙ ap (take (at + w)) written
    ∙ ap (λ (xs : List ℕ). take (at + w) (front ++ xs)) is
    ∙ ap (λ m. take (m + w) (front ++ little_bytes 8 n)) (sym long) ∙ take-append-add front (little_bytes 8 n) w
    ∙ ap (λ (xs : List ℕ). front ++ xs) (number_front w 8 n small)

-- This part and what was written before it are within what all parts take.
pub part_within : {X : Type 0} (f : X → List ℕ) (xs : List X) (i : ℕ) (d x : X) (at m : ℕ) → i < length xs → x ≡ get_or xs i d
    → m ≡ at + length (flat_map f (take i xs)) → m + length (f x) ≤ at + length (flat_map f xs)
part_within f xs i d x at m less is here =
    let whole = ap length (parts_of f xs i d x less is) in
    let front = length-append (flat_map f (take i xs)) (f x) in
    omega (arith, whole, front, length-append (flat_map f (take i xs) ++ f x) (flat_map f (drop (i + 1) xs)))

-- where this part ends
pub part_end : {X : Type 0} (f : X → List ℕ) (xs : List X) (i : ℕ) (d x : X) (at m e : ℕ) → i < length xs → x ≡ get_or xs i d
    → m ≡ at + length (flat_map f (take i xs)) → e ≡ m + length (f x) → e ≡ at + length (flat_map f (take (i + 1) xs))
part_end f xs i d x at m e less is here ends =
    omega (arith, ap length (next_part_of f xs i d x less is), length-append (flat_map f (take i xs)) (f x))

-- one part more is written
pub part_written : {X : Type 0} (f : X → List ℕ) (xs : List X) (i : ℕ) (d x : X) (before mid new : List ℕ) → i < length xs → x ≡ get_or xs i d
    → mid ≡ before ++ flat_map f (take i xs) → new ≡ mid ++ f x → new ≡ before ++ flat_map f (take (i + 1) xs)
part_written f xs i d x before mid new less is first second =
    second ∙ ap (λ (ys : List ℕ). ys ++ f x) first ∙ append_assoc before (flat_map f (take i xs)) (f x)
    ∙ ap (λ (ys : List ℕ). before ++ ys) (next_part_of f xs i d x less is)

-- what was put after some bytes, of which these are the first
pub first_part : (old more all : List ℕ) → all ≡ old ++ more → take (length old) all ≡ old
first_part old more all is = ap (take (length old)) is ∙ take-append_seam old more
