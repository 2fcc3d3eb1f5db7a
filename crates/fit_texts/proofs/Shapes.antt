-- Items that have the shapes of a layout.
use Rattle.fit_texts.proofs.Common.{◌≡◌, suc, [], ◌∷◌, length, refl, ap, Items, HaveShape}
use Rattle.std.proofs.Common.{ℕ, List}

-- there is one for each place
pub as_long : {A : Type 0} (layout : List (ℕ × ℕ)) (items : List (Items A)) → HaveShape layout items → length items ≡ length layout
as_long [] [] have = refl
as_long [] (i ∷ items) have = absurd have
as_long (f ∷ layout) [] have = absurd have
as_long (f ∷ layout) (i ∷ items) have = ap suc (as_long layout items have.1)
