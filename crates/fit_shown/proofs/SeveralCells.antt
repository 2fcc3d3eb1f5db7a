-- The cells of several numbers, by the items of their fields and by the bytes.
use Rattle.fit_shown.proofs.Common.{◌≡◌, ◌∙◌, ◌/◌, ◌%◌, [], length, map, refl, sym, ap, subst, Items, Order, cell, item_width}
use Rattle.fit_shown.proofs.Common.{base_type, eq-eqb, eqb-true, inl, inr, cases_Bool, nil_from_length, item_text, IsFormOf}
use Rattle.std.proofs.Common.{ℕ, List, Option, if◌then◌else◌, ◌==◌, true}
use Rattle.fit_base.specs.declared.code.Class.{Class}
use Rattle.fit_base.specs.declared.code.Class.TheVariants.{Bytes, Text}
use Rattle.fit_cells.proofs.ClassFacts.{side_by_side}
use Rattle.fit_cells.proofs.PlainFacts.{all-barred, all-item, formed_class, plain_cell}
use Rattle.fit_cells.specs.Cells.{barred, class_of, items_text}
use Rattle.fit_cells.specs.declared.form.NumberForm.{NumberForm}
use Rattle.fit_profile.specs.Described.{is_printable}
use Rattle.fit_profile.specs.Profile.{Meaning}
use Rattle.fit_record.specs.ReadMessages.{field_from, numbers_of}
use Rattle.fit_shown.proofs.ShownCells.{BothShow, both_show, printable}
use Rattle.fit_texts.specs.Several.{numbers_text}

-- an empty field needs no case of its own
some_or_none : (class : Class) (code : ℕ) (info : Option Meaning) (width : ℕ) (bits : List ℕ) → (class ≡ Text → ⊥) → (class ≡ Bytes → ⊥)
    → (if length bits == 0 then [] else items_text class code info width bits) ≡ barred (map (item_text class code info width) bits)
some_or_none class code info width bits text bytes = elim (cases_Bool (length bits == 0)) [
  | inl none ↦ let empty : bits ≡ [] = nil_from_length bits (eqb-true (length bits) 0 none) in rw empty refl
  | inr some ↦ rw some (side_by_side class code info width bits text bytes)
]

-- where they fill a field, its items have the width of their form
formed_width : (f : NumberForm) (code size : ℕ) (info : Option Meaning) → IsFormOf code info f → size % f.width ≡ 0 → item_width code size ≡ f.width
formed_width f code size info form whole =
    ap (λ w. if size % w == 0 then w else 1) (sym form.width) ∙ ap (λ b. if b then f.width else 1) (eq-eqb (size % f.width) 0 whole)

-- by the items
pub several_items : {A : Type 0} (f : NumberForm) (code size : ℕ) (info : Option Meaning) (items : Items A) → IsFormOf code info f → size % f.width ≡ 0
    → items.width ≡ item_width code size
    → BothShow code info items (numbers_text code info f.width items.bits)
several_items f code size info items form whole same =
    let wide : items.width ≡ f.width = same ∙ formed_width f code size info form whole in
    let class : class_of code items.width ≡ (base_type code).class =
    ap (class_of code) wide ∙ ap (λ w. if f.width == w then (base_type code).class else Bytes) (sym form.width)
    ∙ ap (λ b. if b then (base_type code).class else Bytes) (eq-eqb f.width f.width refl) in
    let other = formed_class f code info form in
    let is : cell code info items ≡ numbers_text code info f.width items.bits =
    (λ i. if length items.bits == 0 then [] else items_text (class i) code info (wide i) items.bits)
    ∙ some_or_none (base_type code).class code info f.width items.bits other.0 other.1 in
    both_show code info items (numbers_text code info f.width items.bits) is (plain_cell code info items other.0 ∙ is)
    (all-barred (λ b. is_printable b ≡ true) printable refl (item_text (base_type code).class code info f.width)
    (all-item (λ b. is_printable b ≡ true) printable (base_type code).class code info f.width) items.bits)

-- by the bytes
pub several_shown : (A : Type 0) (f : NumberForm) (o : Order) (code size : ℕ) (info : Option Meaning) (bytes : List ℕ) → IsFormOf code info f
    → size % f.width ≡ 0 → length bytes ≡ size
    → BothShow code info (field_from {A = A} o (code, size) bytes) (numbers_text code info f.width (numbers_of o f.width (length bytes / f.width) bytes))
several_shown A f o code size info bytes form whole long =
    let items = field_from {A = A} o (code, size) bytes in
    let bits : items.bits ≡ numbers_of o f.width (length bytes / f.width) bytes =
    ap (λ w. numbers_of o w (size / w) bytes) (formed_width f code size info form whole)
    ∙ ap (λ n. numbers_of o f.width (n / f.width) bytes) (sym long) in
    subst (λ b. BothShow code info items (numbers_text code info f.width b)) bits (several_items f code size info items form whole refl)
