use Rattle.fit_run.proofs.Common.{refl}
use Rattle.fit_run.proofs.running.end_decoding.Goals as goal

pub returns-in-Refused : goal.returns-in-Refused
returns-in-Refused g c = rw c.in-Refused.is (rw (c.as_str.ensures.value, c.refused-line.ensures) at c.end_with_line.ensures.writes)

pub returns-in-Truncated : goal.returns-in-Truncated
returns-in-Truncated g c = rw c.in-Truncated.is (rw (c.as_str-in-Truncated.ensures.value, c.truncated.ensures) at c.end_with_line-in-Truncated.ensures.writes)

pub returns-in-Read : goal.returns-in-Read
returns-in-Read g c = rw c.in-Read.is (refl, rw (c.as_str-in-Read.ensures.value, c.read_fault.ensures) at c.fail.ensures.line, c.fail.ensures.status)
