-- Cells of any base type but string stand in a row without quotes.
use Rattle.fit_cells.proofs.Common.{◌≡◌, ◌∙◌, ℕ, zero, suc, ◌+◌, ◌/◌, ◌%◌, ◌^◌, ◌<◌, ◌≤◌, Bool, true, false, List, [], ◌∷◌, ◌++◌, length, get_or, refl}
use Rattle.fit_cells.proofs.Common.{arith, inl, inr, lit<, cond, unsigned_abs, ℤ, pos, negsuc, Some, None, decimal, digits, digits_onto, digit_glyph}
use Rattle.fit_cells.proofs.Common.{AllByRecursion, cases_Bool, ne_eqb, nat_tests, default_writer, field_text, needs_byte, needs_quotes, Signed, Unsigned}
use Rattle.fit_cells.proofs.Common.{Items, base_type, twos_complement, Meaning, fixed_text, fraction, last_digits, sign, NumberForm, cell, item_text}
use Rattle.fit_cells.proofs.Common.{◌*◌, number_text, IsFormOf, Class, Text, Bytes, barred, bytes_text, class_of}
use Rattle.fit_cells.proofs.Common.{flat_map, hex_digit, hex_digits, items_text, map, sym}
use Rattle.fit_cells.proofs.ClassFacts.{side_by_side}
use Rattle.std.proofs.Common.{◌==◌, Option}
use Rattle.std.proofs.lemmas.List.{append-nil}

-- each byte comes after the comma
abbrev pub High : List ℕ → Type 0
High text = AllByRecursion (λ b. 44 < b) text

-- What every byte of a number's text has, and of hexadecimal digits after `0x`: they are digits, letters, signs and points.
module _ (P : ℕ → Type 0) (of_byte : (b : ℕ) → 44 < b → b < 124 → P b) where
  pub all-append : (a b : List ℕ) → AllByRecursion P a → AllByRecursion P b → AllByRecursion P (a ++ b)
  all-append [] b p q = q
  all-append (x ∷ a) b p q = (p.0, all-append a b p.1 q)

  glyph : (d : ℕ) → d < 10 → P (digit_glyph false d)
  glyph d h = of_byte (digit_glyph false d) (grind (arith, nat_tests)) (grind (arith, nat_tests))

  digits-onto : (k n : ℕ) (acc : List ℕ) → AllByRecursion P acc → AllByRecursion P (digits_onto k 10 false n acc)
  digits-onto zero n acc h = h
  digits-onto (suc k) n acc h =
      let more : AllByRecursion P (digit_glyph false (n % 10) ∷ acc) = (glyph (n % 10) (omega arith), h) in
      elim (cases_Bool (n / 10 == 0)) [
        | inl last ↦ rw last more
        | inr other ↦ rw other (digits-onto k (n / 10) (digit_glyph false (n % 10) ∷ acc) more)
      ]

  pub all-decimal : (n : ℕ) → AllByRecursion P (decimal n)
  unfolding digits
  all-decimal n = digits-onto 64 n [] tt

  all-last : (k n : ℕ) → AllByRecursion P (last_digits k n)
  unfolding last_digits
  all-last zero n = tt
  all-last (suc k) n = (of_byte (48 + n / 10 ^ k % 10) (omega arith) (omega arith), all-last k n)

  all-fraction : (d n : ℕ) → AllByRecursion P (fraction d n)
  all-fraction d n = elim (cases_Bool (d == 0)) [
    | inl none ↦ rw none tt
    | inr some ↦ rw some (of_byte 46 (lit< tt) (lit< tt), all-last d n)
  ]

  all-sign : (v : ℤ) → AllByRecursion P (sign v)
  all-sign (pos n) = tt
  all-sign (negsuc n) = (of_byte 45 (lit< tt) (lit< tt), tt)

  pub all-fixed : (v : ℤ) (d : ℕ) → AllByRecursion P (fixed_text v d)
  all-fixed v d = all-append _ _ (all-append _ _ (all-sign v) (all-decimal (unsigned_abs v / 10 ^ d))) (all-fraction d (unsigned_abs v % 10 ^ d))

  all-number : (info : Option Meaning) (raw : ℤ) → AllByRecursion P (number_text info raw)
  all-number None raw = all-fixed raw 0
  all-number (Some i) raw = all-fixed _ _

  -- that of a number, or nothing where it is the invalid one
  all-valid : (b : Bool) (info : Option Meaning) (raw : ℤ) → AllByRecursion P (cond b [] (number_text info raw))
  all-valid true info raw = tt
  all-valid false info raw = all-number info raw

  hex-digit : (d : ℕ) → d < 16 → P (hex_digit d)
  hex-digit d h = of_byte (hex_digit d) (grind (arith, nat_tests)) (grind (arith, nat_tests))

  all-hex : (k n : ℕ) → AllByRecursion P (hex_digits k n)
  unfolding hex_digits
  all-hex zero n = tt
  all-hex (suc k) n = (hex-digit (n / 16 ^ k % 16) (omega arith), all-hex k n)

  all-0x : (text : List ℕ) → AllByRecursion P text → AllByRecursion P (48 ∷ 120 ∷ text)
  all-0x text h = (of_byte 48 (lit< tt) (lit< tt), (of_byte 120 (lit< tt) (lit< tt), h))

  all-pairs : (bytes : List ℕ) → AllByRecursion P (flat_map (λ b. hex_digits 2 b) bytes)
  all-pairs [] = tt
  all-pairs (b ∷ bytes) = all-append (hex_digits 2 b) (flat_map (λ b. hex_digits 2 b) bytes) (all-hex 2 b) (all-pairs bytes)

  pub all-bytes : (bytes : List ℕ) → AllByRecursion P (bytes_text bytes)
  all-bytes bytes = all-0x (flat_map (λ b. hex_digits 2 b) bytes) (all-pairs bytes)

  pub all-item : (class : Class) (code : ℕ) (info : Option Meaning) (width n : ℕ) → AllByRecursion P (item_text class code info width n)
  all-item Signed code info width n = all-valid (n == (base_type code).invalid) info (twos_complement width n)
  all-item Unsigned code info width n = all-valid (n == (base_type code).invalid) info (pos n)
  all-item class code info width n = all-0x _ (all-hex (2 * width) n)

  -- the same of the bar too, and so of items side by side
  module _ (of_bar : P 124) where
    all-others : (f : ℕ → List ℕ) → ((n : ℕ) → AllByRecursion P (f n)) → (bits : List ℕ) → AllByRecursion P (flat_map (λ t. 124 ∷ t) (map f bits))
    all-others f h [] = tt
    all-others f h (n ∷ bits) = (of_bar, all-append (f n) (flat_map (λ t. 124 ∷ t) (map f bits)) (h n) (all-others f h bits))

    pub all-barred : (f : ℕ → List ℕ) → ((n : ℕ) → AllByRecursion P (f n)) → (bits : List ℕ) → AllByRecursion P (barred (map f bits))
    all-barred f h [] = tt
    all-barred f h (n ∷ bits) = all-append (f n) (flat_map (λ t. 124 ∷ t) (map f bits)) (h n) (all-others f h bits)

    -- the items of any class but text
    pub all-items : (class : Class) (code : ℕ) (info : Option Meaning) (width : ℕ) (bits : List ℕ) → (class ≡ Text → ⊥)
        → AllByRecursion P (items_text class code info width bits)
    all-items Text code info width bits other = absurd (other refl)
    all-items Bytes code info width bits other = all-bytes bits
    all-items class code info width bits other = all-barred (item_text class code info width) (all-item class code info width) bits

pub high-append : (a b : List ℕ) → High a → High b → High (a ++ b)
high-append = all-append (λ b. 44 < b) (λ b h _. h)

pub high-decimal : (n : ℕ) → High (decimal n)
high-decimal = all-decimal (λ b. 44 < b) (λ b h _. h)

pub high-fixed : (v : ℤ) (d : ℕ) → High (fixed_text v d)
high-fixed = all-fixed (λ b. 44 < b) (λ b h _. h)

plain-byte : (b : ℕ) → 44 < b → needs_byte default_writer b ≡ false
plain-byte b h =
    let comma : (b == 44) ≡ false = ne_eqb b 44 (λ e. absurd (omega (arith, e, h))) in
    let quote : (b == 34) ≡ false = ne_eqb b 34 (λ e. absurd (omega (arith, e, h))) in
    let cr : (b == 13) ≡ false = ne_eqb b 13 (λ e. absurd (omega (arith, e, h))) in
    let lf : (b == 10) ≡ false = ne_eqb b 10 (λ e. absurd (omega (arith, e, h))) in
    rw (comma, quote, cr, lf) refl

pub plain : (text : List ℕ) → High text → needs_quotes default_writer text ≡ false
plain [] h = refl
plain (b ∷ text) h = rw (plain-byte b h.0) (plain text h.1)

-- what needs no quotes has none
pub unquoted : (text : List ℕ) → High text → field_text default_writer text ≡ text
unquoted text h = rw (plain text h) refl

same-test : (n : ℕ) → (n == n) ≡ true
same-test n = grind (arith, nat_tests)

-- a list of one element
pub only_one : (xs : List ℕ) → 1 ≤ length xs → length xs < 2 → xs ≡ get_or xs 0 0 ∷ []
only_one [] low high = absurd (omega (arith, low))
only_one (x ∷ []) low high = refl
only_one (x ∷ y ∷ xs) low high = absurd (omega (arith, high))

-- a cell of any base type but string has no byte that needs quotes
pub plain_cell : {A : Type 0} (code : ℕ) (info : Option Meaning) (items : Items A) → ((base_type code).class ≡ Text → ⊥)
    → field_text default_writer (cell code info items) ≡ cell code info items
plain_cell code info items other = unquoted (cell code info items) (elim (cases_Bool (length items.bits == 0)) [
  | inl none ↦ rw none tt
  | inr some ↦ rw some (all-items (λ b. 44 < b) (λ b h _. h) (lit< tt) (class_of code items.width) code info items.width items.bits
      (elim (cases_Bool (items.width == (base_type code).width)) [
        | inl own ↦ rw own other
        | inr bytes ↦ rw bytes (λ e. cc)
      ]))
])

-- a form is that of numbers
pub formed_class : (f : NumberForm) (code : ℕ) (info : Option Meaning) → IsFormOf code info f
    → ((base_type code).class ≡ Text → ⊥) × ((base_type code).class ≡ Bytes → ⊥)
formed_class f code info form = elim (cases_Bool f.signed) [
  | inl signed ↦
      let class : (base_type code).class ≡ Signed = rw signed at form.class in (λ e. cc (sym class ∙ e), λ e. cc (sym class ∙ e))
  | inr other ↦
      let class : (base_type code).class ≡ Unsigned = rw other at form.class in (λ e. cc (sym class ∙ e), λ e. cc (sym class ∙ e))
]

-- the cell of one number
pub formed_cell : {A : Type 0} (f : NumberForm) (code : ℕ) (info : Option Meaning) (items : Items A) (bits : ℕ) → IsFormOf code info f
    → items.width ≡ f.width → items.bits ≡ bits ∷ []
    → cell code info items ≡ item_text (base_type code).class code info f.width bits
formed_cell f code info items bits form same one =
    let wide : (items.width == (base_type code).width) ≡ true = rw (same, form.width) (same-test (base_type code).width) in
    let class = formed_class f code info form in
    rw (one, wide, same) (side_by_side (base_type code).class code info f.width (bits ∷ []) class.0 class.1
    ∙ append-nil (item_text (base_type code).class code info f.width bits))

-- the same in a row
pub lone_cell : {A : Type 0} (f : NumberForm) (code : ℕ) (info : Option Meaning) (items : Items A) (bits : ℕ) → IsFormOf code info f → items.width ≡ f.width
    → items.bits ≡ bits ∷ []
    → field_text default_writer (cell code info items) ≡ item_text (base_type code).class code info f.width bits
lone_cell f code info items bits form same one = plain_cell code info items (formed_class f code info form).0 ∙ formed_cell f code info items bits form same one

-- a cell that needs no quotes, after a text
pub plain_lone : (text cell : List ℕ) → needs_quotes default_writer cell ≡ false → text ++ cell ≡ text ++ field_text default_writer cell
plain_lone text cell plain = rw plain refl
