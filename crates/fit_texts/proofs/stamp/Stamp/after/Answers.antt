use Rattle.fit_texts.proofs.Common.{◌∙◌, ◌++◌, ap, sym, take}
use Rattle.fit_texts.proofs.stamp.Stamp.after.Goals as goal

pub returns-clause-every : goal.returns-clause-every
returns-clause-every c left is =
    let own = ap (λ l. take c.self.inside.used l) (sym c.as_slice.ensures.value) ∙ sym c.split_at.ensures.front in
    c.after_beginning.ensures.every left (is ∙ ap (λ t. t ++ left) (sym c.self.view_is ∙ own))
