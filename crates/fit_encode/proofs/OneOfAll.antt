-- What holds of all elements of a list holds of the one at a place.
use Rattle.fit_encode.proofs.Common.{◌≡◌, ℕ, ◌<◌, List, [], ◌∷◌, length, get_or, sym, subst, arith, AllByRecursion}
use Rattle.std.proofs.Common.{zero, suc}

pub each_at : {X : Type 0} (P : X → Type 0) (xs : List X) (i : ℕ) (x : X) → i < length xs → x ≡ get_or xs i x → AllByRecursion P xs → P x
each_at P [] i x less is all = absurd (omega arith)
each_at P (y ∷ ys) zero x less is all = subst P (sym is) all.0
each_at P (y ∷ ys) (suc i) x less is all = each_at P ys i x (omega arith) is all.1
