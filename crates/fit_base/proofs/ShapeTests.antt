-- The test of a field's shape says what the shape is, and the shape says how many bytes there are.
use Rattle.fit_base.proofs.Common.{◌≡◌, ℕ, ◌*◌, ◌^◌, ◌<◌, ◌↔◌, Bool, true, false, IsTrue, List, [], ◌∷◌, length, refl, sym, ◌∙◌, arith, ltb, lt-ltb, eq-eqb}
use Rattle.fit_base.proofs.Common.{length-append, flat_map, list_all, AllByRecursion, suc-mul, Items, Order, item_width, number_bytes, HasShape, has_shape}
use Rattle.fit_base.proofs.Common.{items_bytes}
use Rattle.std.proofs.Common.{ltb-true, eqb-true}
use Rattle.std.specs.Prelude.{◌&&◌}
use Rattle.fit_base.proofs.Bytes.{both, length-number_bytes}

pub and_true : (a b : Bool) → a ≡ true → b ≡ true → (a && b) ≡ true
and_true true b p q = q
and_true false b p q = p

all_below : (top : ℕ) (xs : List ℕ) → list_all (λ n. ltb n top) xs ≡ true → AllByRecursion (λ n. n < top) xs
all_below top [] h = tt
all_below top (x ∷ xs) h = (ltb-true x top (both _ _ h).0, all_below top xs (both _ _ h).1)

below_all : (top : ℕ) (xs : List ℕ) → AllByRecursion (λ n. n < top) xs → list_all (λ n. ltb n top) xs ≡ true
below_all top [] h = refl
below_all top (x ∷ xs) h = and_true _ _ (lt-ltb x top h.0) (below_all top xs h.1)

pub shape_of_test : {A : Type 0} (code size : ℕ) (items : Items A) → has_shape code size items ≡ true → HasShape code size items
shape_of_test code size items h =
    let first = both _ _ h in
    let second = both _ _ first.1 in
    record {
      width = eqb-true items.width (item_width code size) first.0;
      whole = eqb-true (length items.bits * items.width) size second.0;
      fits = all_below (256 ^ items.width) items.bits second.1;
    }

pub test_of_shape : {A : Type 0} (code size : ℕ) (items : Items A) → HasShape code size items → has_shape code size items ≡ true
test_of_shape code size items s =
    and_true _ _ (eq-eqb items.width (item_width code size) s.width)
    (and_true _ _ (eq-eqb (length items.bits * items.width) size s.whole) (below_all (256 ^ items.width) items.bits s.fits))

-- two tests of one fact
one_test : (P : Type 0) (a b : Bool) → (a ≡ true ↔ P) → (b ≡ true → P) → (P → b ≡ true) → a ≡ b
one_test P true b f g h = sym (h (f.0 refl))
one_test P false true f g h = f.1 (g refl)
one_test P false false f g h = refl

-- whatever answers whether a field has its shape is the test
pub is_has_shape : {A : Type 0} (code size : ℕ) (items : Items A) (b : Bool) → (IsTrue b ↔ HasShape code size items) → b ≡ has_shape code size items
is_has_shape code size items b f = one_test (HasShape code size items) b _ f (shape_of_test code size items) (test_of_shape code size items)

pub length-numbers : (o : Order) (w : ℕ) (ns : List ℕ) → length (flat_map (number_bytes o w) ns) ≡ length ns * w
length-numbers o w [] = omega arith
length-numbers o w (n ∷ ns) =
    length-append (number_bytes o w n) (flat_map (number_bytes o w) ns)
    ∙ omega (arith, length-number_bytes o w n, length-numbers o w ns, suc-mul (length ns) w)

-- A field takes as many bytes as its definition says.
pub length-items_bytes : {A : Type 0} (o : Order) (code size : ℕ) (items : Items A) → HasShape code size items → length (items_bytes o items) ≡ size
length-items_bytes o code size items s = length-numbers o items.width items.bits ∙ s.whole
