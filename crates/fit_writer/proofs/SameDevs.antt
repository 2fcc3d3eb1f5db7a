-- Developer fields that are the same.
use Rattle.std.proofs.Common.{◌≡◌, ap}
use Rattle.std.specs.Prelude.{◌==◌, ◌&&◌}
use Rattle.std.specs.Bool.{Decides}
use Rattle.std.proofs.lemmas.Bool.Decides.{Decides-and, Decides-eqb, Decides-like}
use Rattle.fit_record.specs.declared.definition.DevDef.{DevDef}

pub same_dev : (a b : DevDef) → Decides ((a.number == b.number) && ((a.size == b.size) && (a.index == b.index))) (a ≡ b)
same_dev a b =
    Decides-like _ (λ h i. record { number = h.0 i; size = h.1.0 i; index = h.1.1 i })
    (λ e. (ap (λ f. f.number) e, (ap (λ f. f.size) e, ap (λ f. f.index) e)))
    (Decides-and _ _ (Decides-eqb a.number b.number) (Decides-and _ _ (Decides-eqb a.size b.size) (Decides-eqb a.index b.index)))
