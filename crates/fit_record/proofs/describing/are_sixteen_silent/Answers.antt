use Rattle.fit_record.proofs.Common.{◌≡◌, ◌++◌, ◌∙◌, AllByRecursion, and_parts, subst, take-append-drop}
use Rattle.fit_record.specs.inner.Describing.{IsPassedBy}
use Rattle.fit_record.proofs.SilentFields.{all_joined}
use Rattle.fit_record.proofs.describing.are_sixteen_silent.Goals as goal

pub returns : goal.returns
returns c is =
    let sixteen = c.args.sixteen.now in
    let eight = c.split_at.result.0.now in
    let later = c.split_at.result.1.now in
    let whole : eight ++ later ≡ sixteen = (λ i. c.split_at.ensures.front i ++ c.split_at.ensures.back i) ∙ take-append-drop 8 sixteen in
    let (front, back) = and_parts _ _ is in
    subst (AllByRecursion IsPassedBy) whole (all_joined IsPassedBy eight later (c.are_eight_silent.ensures front) (c.are_eight_silent-2.ensures back))
