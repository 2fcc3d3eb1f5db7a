-- The items of a field and their bytes determine each other.
use Rattle.fit_base.proofs.Common.{◌≡◌, ℕ, ◌*◌, ◌/◌, ◌^◌, ◌<◌, ◌%◌, true, false, cond, List, ◌++◌, length, refl, sym, ap, ◌∙◌, subst, ltb, lit<, flat_map}
use Rattle.fit_base.proofs.Common.{AllByRecursion, mul-div_cancel, number_bytes, Items, Order, base_type, base_types, byte, item_width, HasShape, items_bytes}
use Rattle.std.specs.Prelude.{◌==◌}
use borrow.Author.Tests.{ltb-true}
use Rattle.fit_base.proofs.Bytes.{found_passes, same_numbers}

pub width_positive : (code : ℕ) → 0 < (base_type code).width
width_positive code = ltb-true 0 (base_type code).width (found_passes (λ t. t.code == code) (λ t. ltb 0 t.width) byte base_types refl refl)

pub item_width_positive : (code size : ℕ) → 0 < item_width code size
item_width_positive code size =
    elim (size % (base_type code).width == 0) as (λ b. 0 < cond b (base_type code).width 1) [ true ↦ width_positive code | false ↦ lit< tt ]

-- as many items of a width as make up a size
same_count : (m n w size : ℕ) → 0 < w → m * w ≡ size → n * w ≡ size → m ≡ n
same_count m n w size p e f = sym (mul-div_cancel m p) ∙ ap (λ k. k / w) (e ∙ sym f) ∙ mul-div_cancel n p

pub same_items : {A : Type 0} (o : Order) (code size : ℕ) (a b : Items A) (x y : List ℕ) → HasShape code size a → HasShape code size b
    → items_bytes o a ++ x ≡ items_bytes o b ++ y → (a ≡ b) × (x ≡ y)
same_items o code size a b x y p q e =
    let widths : a.width ≡ b.width = p.width ∙ sym q.width in
    let count : length a.bits ≡ length b.bits =
    same_count _ _ a.width size (subst (λ w. 0 < w) (sym p.width) (item_width_positive code size)) p.whole
    (subst (λ w. length b.bits * w ≡ size) (sym widths) q.whole) in
    let r = same_numbers o a.width a.bits b.bits x y count p.fits
    (subst (λ w. AllByRecursion (λ n. n < 256 ^ w) b.bits) (sym widths) q.fits)
    (subst (λ w. flat_map (number_bytes o a.width) a.bits ++ x ≡ flat_map (number_bytes o w) b.bits ++ y) (sym widths) e) in
    (λ i. record { width = widths i; bits = r.0 i }, r.1)
