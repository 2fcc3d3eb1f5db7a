use Rattle.std.proofs.Common.{◌∷◌, sym, subst, List, ℕ}
use Rattle.fit_csv_text.proofs.LooseTexts.{line-goes-on}
use Rattle.fit_csv_text.specs.inner.Loose.{WritesOn}
use Rattle.fit_csv_text.proofs.loose.take_line.Goals as goal

pub returns-clause-goes : goal.returns-clause-goes
returns-clause-goes c =
    subst (λ (w : List ℕ). WritesOn (13 ∷ 10 ∷ c.args.left.now) c.args.left.now c.args.written.now.items w) (sym c.in_ok-put_byte.ensures.text)
    (line-goes-on c.args.written.now.items c.args.left.now)
