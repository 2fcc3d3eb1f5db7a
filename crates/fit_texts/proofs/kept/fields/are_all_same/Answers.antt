use Rattle.std.proofs.lemmas.Slice.Eq.{slice_eq-Decides}
use Rattle.fit_record.proofs.HeldDefinitions.{same_field}
use Rattle.fit_texts.proofs.kept.fields.are_all_same.Goals as goal

pub returns : goal.returns
returns c =
    let same = slice_eq-Decides same_field c.loop.left.now c.loop.other.now c.eq.result c.eq.ensures in
    (λ yes. c.loop.invariant.1 (same.0 yes), λ is. same.1 (c.loop.invariant.0 is))
