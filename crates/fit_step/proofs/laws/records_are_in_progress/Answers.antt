use Rattle.fit_step.proofs.RecordsInProgress.{begins_record, records_in_progress, idle_between_records}
use Rattle.fit_step.proofs.laws.records_are_in_progress.Goals as goal

pub returns-clause-begin : goal.returns-clause-begin
returns-clause-begin g c = begins_record

pub returns-clause-go_on : goal.returns-clause-go_on
returns-clause-go_on g c = records_in_progress

pub returns-clause-idle : goal.returns-clause-idle
returns-clause-idle g c = idle_between_records
