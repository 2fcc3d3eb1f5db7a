use Rattle.fit_stream.proofs.FoundReports.{reports_are_found}
use Rattle.fit_stream.proofs.laws.reports_are_found.Goals as goal

pub returns : goal.returns
returns c = reports_are_found c.streams_find_one.ensures
