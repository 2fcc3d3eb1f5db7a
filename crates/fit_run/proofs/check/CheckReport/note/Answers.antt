use Rattle.std.proofs.Common.{rules}
-- The counts have room, since few events are heard.
use Rattle.fit_run.proofs.Common.{arith, hear, heard_are_few}
use Rattle.fit_run.proofs.Counts.{few_files, few_records}
use Rattle.fit_run.proofs.check.CheckReport.note.Goals as goal

pub overflow_add-self : goal.overflow_add-self
overflow_add-self c =
    let r = c.requires in
    let few = heard_are_few (hear c.args.event.now r.0) r.2 in
    let less = rw c.in-Item.is at few in
    let records = r.1.of_records in
    omega (arith, less, few_records r.0, records)

pub overflow_add-self-in-FileEnd : goal.overflow_add-self-in-FileEnd
overflow_add-self-in-FileEnd c =
    let r = c.requires in
    let few = heard_are_few (hear c.args.event.now r.0) r.2 in
    let less = rw c.in-FileEnd.is at few in
    let files = r.1.of_files in
    omega (arith, less, few_files r.0, files)

pub returns-in-Header : goal.returns-in-Header
returns-in-Header c = search rules
