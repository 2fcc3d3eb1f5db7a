-- One number more of a field, and one field more of a data message.
use Rattle.fit_record.proofs.Common.{◌≡◌, ℕ, suc, ◌+◌, ◌-◌, ◌*◌, ◌/◌, ◌<◌, List, [], ◌∷◌, ◌++◌, length, take, sym, ap, ◌∙◌, arith, append_assoc, refl}
use Rattle.fit_record.proofs.Common.{length-drop, suc-mul, append-nil, drop-take, take-take, sum_by-cons, Items, Order, Little, Big}
use Rattle.fit_record.proofs.Common.{number, numbers_of, field_from, fields_from, sizes, ◌≤◌, drop, Some, slice_get}
use Rattle.fit_record.proofs.FirstOfNumber.{dropped}

-- ---- numbers

pub one_less : (count k : ℕ) → k < count → count - k ≡ suc (count - (k + 1))
one_less count k less = omega (arith, less)

pub numbers_more : (o : Order) (w n m : ℕ) (rest bits all : List ℕ) → n ≡ suc m → bits ++ numbers_of o w n rest ≡ all
    → (bits ++ number o (take w rest) ∷ []) ++ numbers_of o w m (drop w rest) ≡ all
numbers_more o w n m rest bits all more told =
    append_assoc bits (number o (take w rest) ∷ []) (numbers_of o w m (drop w rest)) ∙ ap (λ k. bits ++ numbers_of o w k rest) (sym more) ∙ told

pub left_more : (w n m : ℕ) (rest : List ℕ) → n ≡ suc m → length rest ≡ n * w → length (drop w rest) ≡ m * w
left_more w n m rest more long = length-drop w rest ∙ (let all : length rest ≡ m * w + w = long ∙ ap (λ k. k * w) more ∙ suc-mul m w in omega (arith, all))

pub some_left : (w n m : ℕ) (rest : List ℕ) → n ≡ suc m → length rest ≡ n * w → w ≤ length rest
some_left w n m rest more long = let all : length rest ≡ m * w + w = long ∙ ap (λ k. k * w) more ∙ suc-mul m w in omega (arith, all)

pub all_numbers : (w : ℕ) (bytes : List ℕ) → (length bytes / w) * w ≡ length bytes → length bytes ≡ (length bytes / w - 0) * w
all_numbers w bytes whole = let none : length bytes / w - 0 ≡ length bytes / w = omega arith in sym (ap (λ n. n * w) none ∙ whole)

pub all_read : (o : Order) (w k count : ℕ) (bits rest all : List ℕ) → count ≤ k → bits ++ numbers_of o w (count - k) rest ≡ all → bits ≡ all
all_read o w k count bits rest all done told =
    let none : count - k ≡ 0 = omega (arith, done) in
    sym (ap (λ n. bits ++ numbers_of o w n rest) none ∙ append-nil bits) ∙ told

-- a byte is its number
numbers_are_bytes : (o : Order) (bytes : List ℕ) → numbers_of o 1 (length bytes) bytes ≡ bytes
numbers_are_bytes o [] = refl
numbers_are_bytes Little (b ∷ bytes) = λ i. (let same : b + 256 * 0 ≡ b = omega arith in same i) ∷ numbers_are_bytes Little bytes i
numbers_are_bytes Big (b ∷ bytes) = λ i. (let same : b + 256 * 0 ≡ b = omega arith in same i) ∷ numbers_are_bytes Big bytes i

pub one_wide : (o : Order) (w : ℕ) (bytes : List ℕ) → w ≡ 1 → bytes ≡ numbers_of o w (length bytes / w) bytes
one_wide o w bytes one =
    let all : length bytes / 1 ≡ length bytes = omega arith in
    sym (ap (λ k. numbers_of o k (length bytes / k) bytes) one ∙ ap (λ n. numbers_of o 1 n bytes) all ∙ numbers_are_bytes o bytes)

-- ---- fields

pub layout_more : {A : Type 0} (o : Order) (f : ℕ × ℕ) (here next : List (ℕ × ℕ)) (rest : List ℕ) (items all : List (Items A)) → here ≡ f ∷ next
    → items ++ fields_from o here rest ≡ all
    → (items ++ field_from o f (take f.1 rest) ∷ []) ++ fields_from o next (drop f.1 rest) ≡ all
layout_more o f here next rest items all more told =
    append_assoc items (field_from o f (take f.1 rest) ∷ []) (fields_from o next (drop f.1 rest))
    ∙ ap (λ l. items ++ fields_from o l rest) (sym more) ∙ told

-- only the bytes of the fields count
pub fields_front : {A : Type 0} (o : Order) (fs : List (ℕ × ℕ)) (bytes : List ℕ) → fields_from {A = A} o fs bytes ≡ fields_from o fs (take (sizes fs) bytes)
fields_front o [] bytes = refl
fields_front {A} o (f ∷ fs) bytes =
    let all : sizes (f ∷ fs) ≡ f.1 + sizes fs = sum_by-cons (λ (g : ℕ × ℕ). g.1) f fs in
    let less : f.1 ≤ f.1 + sizes fs = omega arith in
    let here : take f.1 (take (f.1 + sizes fs) bytes) ≡ take f.1 bytes = take-take f.1 (f.1 + sizes fs) bytes less in
    let beyond : drop f.1 (take (f.1 + sizes fs) bytes) ≡ take (sizes fs) (drop f.1 bytes) = drop-take f.1 (sizes fs) bytes in
    (λ i. field_from {A = A} o f (sym here i) ∷ (fields_front {A = A} o fs (drop f.1 bytes) ∙ ap (fields_from o fs) (sym beyond)) i)
    ∙ ap (λ n. fields_from o (f ∷ fs) (take n bytes)) (sym all)

-- the bytes of the fields from place k on are those of the field there, and of those after it
pub sizes_more : (shapes : List (ℕ × ℕ)) (k : ℕ) (f : ℕ × ℕ) → slice_get shapes k ≡ Some f → sizes (drop k shapes) ≡ f.1 + sizes (drop (k + 1) shapes)
sizes_more shapes k f at = ap sizes (dropped shapes k f at) ∙ sum_by-cons (λ (g : ℕ × ℕ). g.1) f (drop (k + 1) shapes)
