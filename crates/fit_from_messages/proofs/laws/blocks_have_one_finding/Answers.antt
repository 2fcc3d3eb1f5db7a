use Rattle.fit_from_messages.proofs.OneFinding.{one_finding}
use Rattle.fit_from_messages.proofs.laws.blocks_have_one_finding.Goals as goal

pub returns : goal.returns
returns c = one_finding c.good_chains_have_no_fault.ensures c.faults_are_one.ensures
