use Rattle.fit_record.proofs.Common.{rules}
use Rattle.fit_record.proofs.WrongPlace.{length-dev_layout}
use Rattle.fit_record.proofs.environment.Defined.dev_layout.Goals as goal

pub returns-in-Some-clause-count : goal.returns-in-Some-clause-count
returns-in-Some-clause-count g c =
    let same = length-dev_layout c.as_slice.result.now c.as_slice-in-Some.result.now in
    search rules
