use Rattle.std.proofs.lemmas.Bool.Decides.{Decides-eqb, Decides-and, Decides-like}
use Rattle.std.proofs.lemmas.Slice.Eq.{slice_eq-Decides}
use Rattle.std.specs.Bool.{Decides}
use Rattle.std.specs.Prelude.{◌==◌, ◌&&◌}
use Rattle.fit_rows.proofs.Common.{◌≡◌, ap, DevDef}
use Rattle.fit_rows.proofs.definition.again.are_same_devs.Goals as goal

-- what the test of two developer fields says
same_dev : (a b : DevDef) → Decides ((a.number == b.number) && ((a.size == b.size) && (a.index == b.index))) (a ≡ b)
same_dev a b =
    Decides-like _ (λ h i. record { number = h.0 i; size = h.1.0 i; index = h.1.1 i })
    (λ e. (ap (λ f. f.number) e, (ap (λ f. f.size) e, ap (λ f. f.index) e)))
    (Decides-and _ _ (Decides-eqb a.number b.number) (Decides-and _ _ (Decides-eqb a.size b.size) (Decides-eqb a.index b.index)))

pub returns : goal.returns
returns c = slice_eq-Decides same_dev c.args.a.now c.args.b.now c.eq.result c.eq.ensures
