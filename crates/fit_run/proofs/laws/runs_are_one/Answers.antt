use Rattle.fit_run.proofs.OneRun.{runs_are_one}
use Rattle.fit_run.proofs.laws.runs_are_one.Goals as goal

pub returns : goal.returns
returns c = runs_are_one c.reasons_are_one.ensures c.events_are_one.ensures c.texts_have_one_finding.ensures
