-- The reason that belongs to a place in a definition.
use Rattle.fit_step.proofs.Common.{◌≡◌, ℕ, ◌+◌, ◌*◌, ◌<◌, List, ◌∷◌, ◌++◌, length, refl, arith, Some, Order, Little, Big, number_bytes, NoFit, Overrun}
use Rattle.fit_step.proofs.Common.{definition_reason, overrun_or_no_fit, nat_tests, slice_index}

pub at_count : (h room b : ℕ) (bytes : List ℕ) → length bytes ≡ 4 → definition_reason h bytes room b ≡ Some Overrun
at_count h room b bytes l = rw l refl

-- the size of the field after k whole ones
pub at_size : (h room b n k : ℕ) (bytes : List ℕ) → slice_index bytes 4 ≡ n → length bytes ≡ 6 + 3 * k → k < n → definition_reason h bytes room b ≡ Some NoFit
at_size h room b n k bytes i l less = grind (arith, nat_tests)

pub at_dev_count : (h room b n : ℕ) (bytes : List ℕ) → slice_index bytes 4 ≡ n → length bytes ≡ 5 + 3 * n
    → definition_reason h bytes room b ≡ Some (overrun_or_no_fit (1 + 3 * b) room)
at_dev_count h room b n bytes i l = grind (arith, nat_tests)

-- the size of the developer field after k whole ones
pub at_dev_size : (h room b n k : ℕ) (bytes : List ℕ) → slice_index bytes 4 ≡ n → length bytes ≡ 7 + 3 * n + 3 * k
    → definition_reason h bytes room b ≡ Some NoFit
at_dev_size h room b n k bytes i l = grind (arith, nat_tests)

-- the number of fields stands at place 4
pub count_at : (o : Order) (g x y n : ℕ) (more after : List ℕ) → slice_index (x ∷ y ∷ ((number_bytes o 2 g ++ n ∷ more) ++ after)) 4 ≡ n
count_at Little g x y n more after = refl
count_at Big g x y n more after = refl

pub count_before : (o : Order) (g x y n : ℕ) (more : List ℕ) → slice_index (x ∷ y ∷ (number_bytes o 2 g ++ n ∷ more)) 4 ≡ n
count_before Little g x y n more = refl
count_before Big g x y n more = refl

pub count_in_dev : (o : Order) (g x y n : ℕ) (more after last : List ℕ) → slice_index (x ∷ y ∷ (((number_bytes o 2 g ++ n ∷ more) ++ after) ++ last)) 4 ≡ n
count_in_dev Little g x y n more after last = refl
count_in_dev Big g x y n more after last = refl
