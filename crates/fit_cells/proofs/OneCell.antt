-- Items with the shape that a code and a size give have a cell of their own.
use Rattle.fit_cells.proofs.Common.{◌≡◌, ◌∙◌, ℕ, ◌*◌, ◌^◌, ◌<◌, Bool, true, false, cond, List, [], ◌∷◌, length, map, All, refl, sym, ap, ap₂, subst, arith, inl}
use Rattle.fit_cells.proofs.Common.{inr, ◌⊎◌, ℤ, pos, neg_ℤ, ◌-ℤ◌, ◌≤ℤ◌, ◌<ℤ◌, Some, None, IfSome, eqb-true, nat_lt, AllByRecursion, before_first, after_first}
use Rattle.fit_cells.proofs.Common.{cases_Bool, ints, nil_from_length, All-from_recursion, Class, Signed, Unsigned, Text, Bytes, Items, base_type, item_width}
use Rattle.fit_cells.proofs.Common.{HasShape, twos_complement, Meaning, IsScale, decimals, IsIn128, barred, begins_as_bytes, cell, class_of, hex_digits}
use Rattle.fit_cells.proofs.Common.{item_text, items_text, number_text, scaled_value, string_text, bytes_text, is_bar, read_hex}
use Rattle.std.proofs.Common.{◌==◌, Option}
use Rattle.fit_numbers.specs.Laws.{TextHasOneNumber}
use Rattle.fit_cells.proofs.ClassFacts.{text_width, bytes_width, item_width as kinds, item_width-kinds}
use Rattle.fit_cells.proofs.ItemFacts.{shape_count}
use Rattle.fit_cells.proofs.NumberFacts.{complement-is, power-bound, raw-least, raw-most, raw-in, scaled-in, shift-bound, one-raw, number-some}
use Rattle.fit_cells.proofs.ReadFacts.{bytes-shown, digits-read, sixteen-squared}
use Rattle.fit_cells.proofs.SplitFacts.{first-text, other-texts}
use Rattle.fit_cells.proofs.StringFacts.{string-bytes, string-plain, plain-same}
use Rattle.fit_cells.proofs.TextFacts.{Low, low-item}

abbrev IsKnown : Option Meaning → Type 0
IsKnown info = IfSome info (λ i. IsScale i.scale × (i.offset < 2 ^ 32))

-- a text is that of one number
one_number : TextHasOneNumber → (info : Option Meaning) → IsKnown info → (x y : ℤ) → neg_ℤ (pos (2 ^ 64)) ≤ℤ x → x <ℤ pos (2 ^ 64) → neg_ℤ (pos (2 ^ 64)) ≤ℤ y
    → y <ℤ pos (2 ^ 64)
    → number_text info x ≡ number_text info y → x ≡ y
one_number law None k x y xl xm yl ym e = law x y 0 (raw-in x xl xm) (raw-in y yl ym) e
one_number law (Some i) k x y xl xm yl ym e =
    let shift = shift-bound i.offset i.scale k.0 k.1 in
    let in_x : IsIn128 (scaled_value x i.scale i.offset) =
    scaled-in (x -ℤ pos (i.offset * i.scale)) i.scale k.0 (omega (arith, ints, xl, shift)) (omega (arith, ints, xm, shift)) in
    let in_y : IsIn128 (scaled_value y i.scale i.offset) =
    scaled-in (y -ℤ pos (i.offset * i.scale)) i.scale k.0 (omega (arith, ints, yl, shift)) (omega (arith, ints, ym, shift)) in
    let same : x -ℤ pos (i.offset * i.scale) ≡ y -ℤ pos (i.offset * i.scale) =
    one-raw (x -ℤ pos (i.offset * i.scale)) (y -ℤ pos (i.offset * i.scale)) i.scale k.0
    (law (scaled_value x i.scale i.offset) (scaled_value y i.scale i.offset) (decimals i.scale) in_x in_y e) in
    omega (arith, ints, same)

-- signed numbers have one pattern of bits
one-pattern : (top m n : ℕ) (low_m low_n : Bool) → nat_lt (2 * m) top ≡ low_m → nat_lt (2 * n) top ≡ low_n → m < top → n < top
    → cond low_m (pos m) (pos m -ℤ pos top) ≡ cond low_n (pos n) (pos n -ℤ pos top) → m ≡ n
one-pattern top m n true true a b p q e = omega (arith, ints, e)
one-pattern top m n true false a b p q e = absurd (omega (arith, ints, e, q))
one-pattern top m n false true a b p q e = absurd (omega (arith, ints, e, p))
one-pattern top m n false false a b p q e = omega (arith, ints, e)

-- of two integers that show the same, both are the invalid one or none is
one-valid : TextHasOneNumber → (info : Option Meaning) → IsKnown info → (m n invalid : ℕ) (x y : ℤ) (is_m is_n : Bool) → (m == invalid) ≡ is_m
    → (n == invalid) ≡ is_n
    → neg_ℤ (pos (2 ^ 64)) ≤ℤ x → x <ℤ pos (2 ^ 64) → neg_ℤ (pos (2 ^ 64)) ≤ℤ y → y <ℤ pos (2 ^ 64) → (x ≡ y → m ≡ n)
    → cond is_m [] (number_text info x) ≡ cond is_n [] (number_text info y) → m ≡ n
one-valid law info k m n invalid x y true true a b xl xm yl ym same e = eqb-true m invalid a ∙ sym (eqb-true n invalid b)
one-valid law info k m n invalid x y true false a b xl xm yl ym same e = let l = ap length e in absurd (omega (arith, l, number-some info y))
one-valid law info k m n invalid x y false true a b xl xm yl ym same e = let l = ap length e in absurd (omega (arith, l, number-some info x))
one-valid law info k m n invalid x y false false a b xl xm yl ym same e = same (one_number law info k x y xl xm yl ym e)

pos-same : (m n : ℕ) → pos m ≡ pos n → m ≡ n
pos-same m n e = omega (arith, ints, e)

one-float : (w m n : ℕ) → m < 256 ^ w → n < 256 ^ w → 48 ∷ 120 ∷ hex_digits (2 * w) m ≡ 48 ∷ 120 ∷ hex_digits (2 * w) n → m ≡ n
one-float w m n p q e =
    let digits : hex_digits (2 * w) m ≡ hex_digits (2 * w) n = cc in
    sym (digits-read (2 * w) m (rw (sixteen-squared w) p)) ∙ ap (read_hex 0) digits ∙ digits-read (2 * w) n (rw (sixteen-squared w) q)

one-item : TextHasOneNumber → (class : Class) (code : ℕ) (info : Option Meaning) (w m n : ℕ) → IsKnown info → (w ≡ 1) ⊎ (w ≡ 2) ⊎ (w ≡ 4) ⊎ (w ≡ 8)
    → m < 256 ^ w → n < 256 ^ w
    → item_text class code info w m ≡ item_text class code info w n → m ≡ n
one-item law Signed code info w m n k kinds p q e =
    let limit = power-bound w kinds in
    let is_m = complement-is w m in
    let is_n = complement-is w n in
    one-valid law info k m n (base_type code).invalid (twos_complement w m) (twos_complement w n) _ _ refl refl
    (raw-least _ m (256 ^ w) limit is_m) (raw-most _ m (256 ^ w) limit p is_m) (raw-least _ n (256 ^ w) limit is_n) (raw-most _ n (256 ^ w) limit q is_n)
    (one-pattern (256 ^ w) m n _ _ refl refl p q) e
one-item law Unsigned code info w m n k kinds p q e =
    let limit = power-bound w kinds in
    one-valid law info k m n (base_type code).invalid (pos m) (pos n) _ _ refl refl
    (raw-least _ m (256 ^ w) limit (inl refl)) (raw-most _ m (256 ^ w) limit p (inl refl)) (raw-least _ n (256 ^ w) limit (inl refl))
    (raw-most _ n (256 ^ w) limit q (inl refl))
    (pos-same m n) e
one-item law class code info w m n k kinds p q e = one-float w m n p q e

one-list : (f : ℕ → List ℕ) (top : ℕ) → ((n : ℕ) → Low (f n)) → ((m n : ℕ) → m < top → n < top → f m ≡ f n → m ≡ n)
    → (a b : List ℕ) → length a ≡ length b → AllByRecursion (λ n. n < top) a → AllByRecursion (λ n. n < top) b → barred (map f a) ≡ barred (map f b) → a ≡ b
one-list f top low one [] [] l p q e = refl
one-list f top low one [] (n ∷ b) l p q e = absurd (omega (arith, l))
one-list f top low one (m ∷ a) [] l p q e = absurd (omega (arith, l))
one-list f top low one (m ∷ a) (n ∷ b) l p q e =
    let first : f m ≡ f n = sym (first-text (f m) (map f a) (low m)) ∙ ap (λ t. before_first is_bar t) e ∙ first-text (f n) (map f b) (low n) in
    let others : barred (map f a) ≡ barred (map f b) =
    sym (other-texts (f m) (map f a) (low m)) ∙ ap (λ t. after_first is_bar t) e ∙ other-texts (f n) (map f b) (low n) in
    ap₂ (λ x xs. x ∷ xs) (one m n p.0 q.0 first) (one-list f top low one a b (omega (arith, l)) p.1 q.1 others)

one-string : (a b : List ℕ) → length a ≡ length b → All (λ n. n < 256) a → All (λ n. n < 256) b → string_text a ≡ string_text b → a ≡ b
one-string a b l p q e = elim (cases_Bool (begins_as_bytes (string_text a))) [
  | inl begins ↦ sym (string-bytes a (string_text a) (length a) refl begins refl p) ∙ string-bytes b (string_text a) (length a) e begins (sym l) q
  | inr plain ↦ string-plain b (string_text a) a (length a) e plain refl (sym l) (λ k h. plain-same a (string_text a) k refl plain)
]

one-bytes : (a b : List ℕ) → length a ≡ length b → All (λ n. n < 256) a → All (λ n. n < 256) b → bytes_text a ≡ bytes_text b → a ≡ b
one-bytes a b l p q e = sym (bytes-shown a (bytes_text a) (length a) refl refl p) ∙ bytes-shown b (bytes_text a) (length a) e (sym l) q

one-items : TextHasOneNumber → (class : Class) (code : ℕ) (info : Option Meaning) (w : ℕ) (a b : List ℕ) → IsKnown info → (w ≡ 1) ⊎ (w ≡ 2) ⊎ (w ≡ 4) ⊎ (w ≡ 8)
    → ((class ≡ Text) ⊎ (class ≡ Bytes) → w ≡ 1) → length a ≡ length b → AllByRecursion (λ n. n < 256 ^ w) a → AllByRecursion (λ n. n < 256 ^ w) b
    → items_text class code info w a ≡ items_text class code info w b → a ≡ b
one-items law Text code info w a b k kinds narrow l p q e =
    let one = narrow (inl refl) in
    one-string a b l (subst (λ v. All (λ n. n < 256 ^ v) a) one (All-from_recursion (λ n. n < 256 ^ w) a p))
    (subst (λ v. All (λ n. n < 256 ^ v) b) one (All-from_recursion (λ n. n < 256 ^ w) b q)) e
one-items law Bytes code info w a b k kinds narrow l p q e =
    let one = narrow (inr refl) in
    one-bytes a b l (subst (λ v. All (λ n. n < 256 ^ v) a) one (All-from_recursion (λ n. n < 256 ^ w) a p))
    (subst (λ v. All (λ n. n < 256 ^ v) b) one (All-from_recursion (λ n. n < 256 ^ w) b q)) e
one-items law class code info w a b k kinds narrow l p q e =
    one-list (item_text class code info w) (256 ^ w) (low-item class code info w) (λ m n. one-item law class code info w m n k kinds) a b l p q e

one-narrow : (code size : ℕ) → (class_of code (item_width code size) ≡ Text) ⊎ (class_of code (item_width code size) ≡ Bytes) → item_width code size ≡ 1
one-narrow code size (inl text) = text_width code (item_width code size) text
one-narrow code size (inr bytes) = bytes_width code (item_width code size) (item_width-kinds code size) bytes

-- what the items of a shape show, where there are some
shown : {A : Type 0} (code size : ℕ) (info : Option Meaning) (items : Items A) → HasShape code size items → (length items.bits == 0) ≡ false
    → cell code info items ≡ items_text (class_of code (item_width code size)) code info (item_width code size) items.bits
shown code size info items s some = rw some (ap (λ v. items_text (class_of code v) code info v items.bits) s.width)

pub one_cell : TextHasOneNumber → {A : Type 0} (code size : ℕ) (info : Option Meaning) (a b : Items A) → IsKnown info → HasShape code size a
    → HasShape code size b → cell code info a ≡ cell code info b → a ≡ b
one_cell law code size info a b k p q e =
    let count : length a.bits ≡ length b.bits = shape_count code size a p ∙ sym (shape_count code size b q) in
    let width : a.width ≡ b.width = p.width ∙ sym q.width in
    let bits : a.bits ≡ b.bits = elim (cases_Bool (length a.bits == 0)) [
      | inl none ↦
          let empty = eqb-true (length a.bits) 0 none in
          nil_from_length a.bits empty ∙ sym (nil_from_length b.bits (sym count ∙ empty))
      | inr some ↦
          one-items law (class_of code (item_width code size)) code info (item_width code size) a.bits b.bits k
          (kinds code (item_width code size) (item_width-kinds code size)) (one-narrow code size) count
          (subst (λ v. AllByRecursion (λ n. n < 256 ^ v) a.bits) p.width p.fits) (subst (λ v. AllByRecursion (λ n. n < 256 ^ v) b.bits) q.width q.fits)
          (sym (shown code size info a p some) ∙ e ∙ shown code size info b q (ap (λ n. n == 0) (sym count) ∙ some))
    ] in
    λ i. record { width = width i; bits = bits i }
