use Rattle.fit_run.proofs.running.fail_decoding.Goals as goal

pub returns-in-Refused : goal.returns-in-Refused
returns-in-Refused g c = rw c.in-Refused.is (rw (c.as_str.ensures.value, c.refused.ensures) at c.fail.ensures.line, c.fail.ensures.status)

pub returns-in-Truncated : goal.returns-in-Truncated
returns-in-Truncated g c = rw c.in-Truncated.is
    (rw (c.as_str-in-Truncated.ensures.value, c.truncated.ensures) at c.fail-in-Truncated.ensures.line, c.fail-in-Truncated.ensures.status)

pub returns-in-Read : goal.returns-in-Read
returns-in-Read g c = rw c.in-Read.is
    (rw (c.as_str-in-Read.ensures.value, c.read_fault.ensures) at c.fail-in-Read.ensures.line, c.fail-in-Read.ensures.status)
