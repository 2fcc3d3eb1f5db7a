use Rattle.fit_report.proofs.Common.{ap, Seen, ToldSoFar}
use Rattle.fit_report.proofs.telling.Telling.new.Goals as goal

pub returns : goal.returns
returns c = let told : Seen → ToldSoFar = λ seen. record { seen = seen; written = 0 } in ap told c.new.ensures
