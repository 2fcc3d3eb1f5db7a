-- Items of one shape that a cell shows are one list.
use Rattle.fit_cells.proofs.Common.{◌≡◌, ◌∙◌, ℕ, ◌*◌, ◌/◌, ◌^◌, ◌<◌, false, List, length, All, Result, Ok, Err, sym, ap, subst, inl, inr, eqb-true, IfOk}
use Rattle.fit_cells.proofs.Common.{mul-div_cancel, cases_Bool, nil_from_length, All-from_recursion, Items, item_width, HasShape, Meaning, cell, class_of}
use Rattle.fit_cells.proofs.Common.{items_text}
use Rattle.std.proofs.Common.{◌==◌, Option}
use Rattle.fit_base.proofs.SameItems.{item_width_positive}
use Rattle.fit_base.proofs.Shapes.{item_width_divides}

-- two facts of one answer
pub both-ok : {T E : Type 0} (r : Result T E) (P Q : T → Type 0) → IfOk r P → IfOk r Q → IfOk r (λ x. P x × Q x)
both-ok (Ok x) P Q p q = (p, q)
both-ok (Err e) P Q p q = tt

-- as many items as a size has of its width
pub shape_count : {A : Type 0} (code size : ℕ) (items : Items A) → HasShape code size items → length items.bits ≡ size / item_width code size
shape_count code size items s =
    let positive : 0 < items.width = subst (λ w. 0 < w) (sym s.width) (item_width_positive code size) in
    sym (mul-div_cancel (length items.bits) positive) ∙ ap (λ n. n / items.width) s.whole ∙ ap (λ w. size / w) s.width

-- what the items of a shape show, where there are some
shown : {A : Type 0} (code size width : ℕ) (info : Option Meaning) (text : List ℕ) (items : Items A) → width ≡ item_width code size → HasShape code size items
    → (length items.bits == 0) ≡ false → cell code info items ≡ text → text ≡ items_text (class_of code width) code info width items.bits
shown code size width info text items w s some e =
    sym (rw some at e) ∙ ap (λ v. items_text (class_of code v) code info v items.bits) (s.width ∙ sym w)

same-bits : {A : Type 0} (code size width : ℕ) (info : Option Meaning) (text bits : List ℕ) (items : Items A) → width ≡ item_width code size
    → HasShape code size items → cell code info items ≡ text → length bits ≡ size / width
    → ((numbers : List ℕ) → length numbers ≡ size / width → All (λ n. n < 256 ^ width) numbers → text ≡ items_text (class_of code width) code info width numbers
    → bits ≡ numbers)
    → bits ≡ items.bits
same-bits code size width info text bits items w s e long every =
    let count : length items.bits ≡ size / width = shape_count code size items s ∙ ap (λ v. size / v) (sym w) in
    elim (cases_Bool (length items.bits == 0)) [
      | inl none ↦
          let empty : length items.bits ≡ 0 = eqb-true (length items.bits) 0 none in
          nil_from_length bits (long ∙ sym count ∙ empty) ∙ sym (nil_from_length items.bits empty)
      | inr some ↦
          let small : All (λ n. n < 256 ^ width) items.bits =
          subst (λ v. All (λ n. n < 256 ^ v) items.bits) (s.width ∙ sym w) (All-from_recursion (λ n. n < 256 ^ items.width) items.bits s.fits) in
          every items.bits count small (shown code size width info text items w s some e)
    ]

-- what is read of a text is whatever items show it
pub same-items : {A : Type 0} (code size width : ℕ) (info : Option Meaning) (text bits : List ℕ) (items : Items A) → width ≡ item_width code size
    → HasShape code size items → cell code info items ≡ text → length bits ≡ size / width
    → ((numbers : List ℕ) → length numbers ≡ size / width → All (λ n. n < 256 ^ width) numbers → text ≡ items_text (class_of code width) code info width numbers
    → bits ≡ numbers)
    → ◌≡◌ {A = Items A} (record { width = width; bits = bits }) items
same-items code size width info text bits items w s e long every =
    let same = same-bits code size width info text bits items w s e long every in
    λ i. record { width = (w ∙ sym s.width) i; bits = same i }

pub shape_whole : (code size width : ℕ) (bits : List ℕ) → width ≡ item_width code size → length bits ≡ size / width → length bits * width ≡ size
shape_whole code size width bits w long = ap (λ n. n * width) long ∙ ap (λ v. (size / v) * v) w ∙ item_width_divides code size
