use Rattle.fit_record.proofs.Common.{◌≡◌, ◌++◌, ◌∙◌, AllByRecursion, and_parts, subst, take-append-drop}
use Rattle.fit_record.specs.inner.Describing.{IsPassedBy}
use Rattle.fit_record.proofs.SilentFields.{all_joined, both_silent}
use Rattle.fit_record.proofs.describing.are_eight_silent.Goals as goal

pub returns : goal.returns
returns c is =
    let eight = c.args.eight.now in
    let four = c.split_at.result.0.now in
    let later = c.split_at.result.1.now in
    let whole : four ++ later ≡ eight = (λ i. c.split_at.ensures.front i ++ c.split_at.ensures.back i) ∙ take-append-drop 4 eight in
    let (others, empty) = and_parts _ _ is in
    let (n, m) = and_parts _ _ others in
    let (s, t) = and_parts _ _ empty in
    subst (AllByRecursion IsPassedBy) whole
    (all_joined IsPassedBy four later (both_silent four (c.are_others.ensures n) (c.are_empty.ensures s))
    (both_silent later (c.are_others-2.ensures m) (c.are_empty-2.ensures t)))
