use Rattle.fit_record.proofs.Common.{and_parts}
use Rattle.fit_record.proofs.SilentFields.{both_silent}
use Rattle.fit_record.proofs.describing.are_four_silent.Goals as goal

pub returns : goal.returns
returns c is =
    let (others, empty) = and_parts _ _ is in
    both_silent c.args.four.now (c.are_others.ensures others) (c.are_empty.ensures empty)
