use Rattle.fit_csv.proofs.OneFinding.{one-finding}
use Rattle.fit_csv.proofs.laws.texts_have_one_finding.Goals as goal

pub returns : goal.returns
returns c = one-finding c.chains_have_own_rows.ensures c.good_chains_have_no_fault.ensures c.faults_are_one.ensures
