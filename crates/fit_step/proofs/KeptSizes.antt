-- How much there is of a data message of which the bytes are kept as they came.
use Rattle.fit_step.proofs.Common.{◌≡◌, ℕ, ◌+◌, ◌-◌, ◌/◌, List, [], ◌∷◌, ◌++◌, ap, ◌∙◌, arith, Some, min, drop, slice_get, item_width, sum_by-cons, sizes}
use Rattle.fit_step.proofs.Common.{items_so_far}
use Rattle.fit_record.proofs.FirstOfNumber.{dropped}

pub items_next : (layout : List (ℕ × ℕ)) (k : ℕ) (f : ℕ × ℕ) (left : ℕ) → slice_get layout k ≡ Some f
    → items_so_far (drop k layout) left ≡ min left f.1 / item_width f.0 f.1 + items_so_far (drop (k + 1) layout) (left - f.1)
items_next layout k f left at = ap (λ l. items_so_far l left) (dropped layout k f at)

-- of fields and others after them
pub items_both : (a b : List (ℕ × ℕ)) (count : ℕ) → items_so_far (a ++ b) count ≡ items_so_far a count + items_so_far b (count - sizes a)
items_both [] b count =
    let all : count ≡ count - sizes [] = omega arith in
    ap (items_so_far b) all ∙ (let none : items_so_far b (count - sizes []) ≡ 0 + items_so_far b (count - sizes []) = omega arith in none)
items_both (f ∷ a) b count =
    let left : count - f.1 - sizes a ≡ count - sizes (f ∷ a) = omega (arith, sum_by-cons (λ (g : ℕ × ℕ). g.1) f a) in
    omega (arith, items_both a b (count - f.1), ap (items_so_far b) left)
