use Rattle.fit_profile.proofs.Common.{◌≡◌, ◌∙◌, ℕ, List, length, get_or, sym, ap, None, Some, Option, slice_get, is_some}
use Rattle.std.proofs.Common.{ltb, option_map}
use Rattle.std.specs.Borrow.{Bor}
use Rattle.std.specs.Option.{IfSome}
use Rattle.fit_profile.proofs.SliceReads.{read_at, none_at}
use Rattle.fit_profile.proofs.names.Names.at_place.Goals as goal

-- what stands behind the reference that is read
behind : {X : Type 0} (o : Option (Bor X)) (xs : List X) (k : ℕ) → is_some o ≡ ltb k (length xs) → IfSome o (λ x. x.now ≡ get_or xs k x.now)
    → option_map (λ x. x.now) o ≡ slice_get xs k
behind None xs k past is = sym (none_at xs k past)
behind (Some x) xs k within is = sym (read_at xs k x.now within is)

pub returns : goal.returns
returns g c =
    behind c.get.result c.at.result.now c.args.place c.get.ensures.lookup.0 c.get.ensures.lookup.1
    ∙ ap (λ xs. slice_get xs c.args.place) c.at.ensures
