use Rattle.fit_csv.proofs.Common.{◌∙◌, refl, sym, subst, Row, DifferAt, row_of}
use Rattle.std.proofs.Common.{IfSome}
use Rattle.fit_csv.proofs.SevenCells.{same-cells}
use Rattle.fit_csv.proofs.from.header.difference_by.Goals as goal

pub returns-clause-some : goal.returns-clause-some
returns-clause-some c =
    subst (λ (r : Row). IfSome c.first_difference.result (λ column. DifferAt column r (row_of c.args.cells.now)))
    (same-cells c.requires.kind (c.as_bytes.ensures.value ∙ c.format.ensures.text) (c.as_bytes-2.ensures.value ∙ c.format-2.ensures.text)
    (c.as_bytes-3.ensures.value ∙ c.format-3.ensures.text) (c.as_bytes-4.ensures.value ∙ c.sum_word.ensures) c.requires.rest refl)
    c.first_difference.ensures.some

pub returns-clause-none : goal.returns-clause-none
returns-clause-none c none =
    sym (same-cells c.requires.kind (c.as_bytes.ensures.value ∙ c.format.ensures.text) (c.as_bytes-2.ensures.value ∙ c.format-2.ensures.text)
    (c.as_bytes-3.ensures.value ∙ c.format-3.ensures.text) (c.as_bytes-4.ensures.value ∙ c.sum_word.ensures) c.requires.rest refl)
    ∙ c.first_difference.ensures.none none
