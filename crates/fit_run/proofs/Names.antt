-- How long the names of reasons are.
use Rattle.fit_run.proofs.Common.{◌≤◌, length, lit≤, Reason}
use Rattle.fit_frame.specs.declared.reason.Reason.TheVariants.{HeaderSize}
use Rattle.fit_frame.specs.ReasonNames.{reason_name}

pub length-reason_name : (r : Reason) → length (reason_name r) ≤ 14
length-reason_name HeaderSize = lit≤ tt
length-reason_name r = lit≤ tt
