-- Widths and classes of base types.
use Rattle.fit_cells.proofs.Common.{◌≡◌, ◌∙◌, ℕ, ◌⊎◌, inl, inr, Bool, true, false, refl, eqb-true, eq-eqb, List, map, ◌%◌, ◌||◌, cases_Bool, Class, Text, Bytes}
use Rattle.fit_cells.proofs.Common.{base_type, base_types, byte, Meaning, barred, class_of, item_text, items_text}
use Rattle.std.specs.Prelude.{◌==◌, Option}
use Rattle.fit_base.proofs.Bytes.{found_passes}
use Rattle.fit_base.specs.BaseTypes as base

abbrev is_width : ℕ → Bool
is_width w = ((w == 1) || (w == 2)) || ((w == 4) || (w == 8))

or_true : (a b : Bool) → (a || b) ≡ true → (a ≡ true) ⊎ (b ≡ true)
or_true true b h = inl refl
or_true false b h = inr h

widths : (w : ℕ) → is_width w ≡ true → (w ≡ 1) ⊎ (w ≡ 2) ⊎ (w ≡ 4) ⊎ (w ≡ 8)
widths w h = elim (or_true _ _ h) [
  | inl a ↦ elim (or_true _ _ a) [
    | inl one ↦ inl (eqb-true w 1 one)
    | inr two ↦ inr (inl (eqb-true w 2 two))
  ]
  | inr b ↦ elim (or_true _ _ b) [
    | inl four ↦ inr (inr (inl (eqb-true w 4 four)))
    | inr eight ↦ inr (inr (inr (eqb-true w 8 eight)))
  ]
]

pub code_width : (code : ℕ) → ((base_type code).width ≡ 1) ⊎ ((base_type code).width ≡ 2) ⊎ ((base_type code).width ≡ 4) ⊎ ((base_type code).width ≡ 8)
code_width code = widths (base_type code).width (found_passes (λ t. t.code == code) (λ t. is_width t.width) byte base_types refl refl)

-- items are of one of four widths
pub item_width : (code width : ℕ) → (width ≡ (base_type code).width) ⊎ (width ≡ 1) → (width ≡ 1) ⊎ (width ≡ 2) ⊎ (width ≡ 4) ⊎ (width ≡ 8)
item_width code width (inl own) = rw own (code_width code)
item_width code width (inr one) = inl one

-- a field's items have its code's width, or 1
pub item_width-kinds : (code size : ℕ) → (base.item_width code size ≡ (base_type code).width) ⊎ (base.item_width code size ≡ 1)
item_width-kinds code size = elim (cases_Bool (size % (base_type code).width == 0)) [
  | inl whole ↦ inl (rw whole refl)
  | inr rest ↦ inr (rw rest refl)
]

-- strings and bytes are one byte wide
abbrev narrow : Class → ℕ → Bool
narrow Text w = w == 1
narrow Bytes w = w == 1
narrow _ w = true

narrow_text : (class : Class) (w : ℕ) → narrow class w ≡ true → (class ≡ Text) ⊎ (class ≡ Bytes) → w ≡ 1
narrow_text Text w h e = eqb-true w 1 h
narrow_text Bytes w h e = eqb-true w 1 h
narrow_text class w h (inl e) = cc
narrow_text class w h (inr e) = cc

code_narrow : (code : ℕ) → ((base_type code).class ≡ Text) ⊎ ((base_type code).class ≡ Bytes) → (base_type code).width ≡ 1
code_narrow code e = narrow_text (base_type code).class (base_type code).width
    (found_passes (λ t. t.code == code) (λ t. narrow t.class t.width) byte base_types refl refl) e

pub text_width : (code width : ℕ) → class_of code width ≡ Text → width ≡ 1
text_width code width e = elim (cases_Bool (width == (base_type code).width)) [
  | inl own ↦ eqb-true width (base_type code).width own ∙ code_narrow code (inl (rw own at e))
  | inr other ↦ cc (rw other at e)
]

pub bytes_width : (code width : ℕ) → (width ≡ (base_type code).width) ⊎ (width ≡ 1) → class_of code width ≡ Bytes → width ≡ 1
bytes_width code width (inr one) e = one
bytes_width code width (inl own) e = own ∙ code_narrow code (inr (rw (eq-eqb width (base_type code).width own) at e))

pub own_width : (code width : ℕ) → (class_of code width ≡ Bytes → ⊥) → width ≡ (base_type code).width
own_width code width h = elim (cases_Bool (width == (base_type code).width)) [
  | inl own ↦ eqb-true width (base_type code).width own
  | inr other ↦ absurd (h (rw other refl))
]

-- the other classes stand item by item
pub side_by_side : (class : Class) (code : ℕ) (info : Option Meaning) (width : ℕ) (bits : List ℕ) → (class ≡ Text → ⊥) → (class ≡ Bytes → ⊥)
    → items_text class code info width bits ≡ barred (map (item_text class code info width) bits)
side_by_side Text code info width bits t b = absurd (t refl)
side_by_side Bytes code info width bits t b = absurd (b refl)
side_by_side class code info width bits t b = refl
