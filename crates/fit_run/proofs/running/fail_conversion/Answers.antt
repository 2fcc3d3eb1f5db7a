use Rattle.fit_run.proofs.running.fail_conversion.Goals as goal

pub returns-in-Decode : goal.returns-in-Decode
returns-in-Decode g c = rw c.in-Decode.is c.fail_decoding.ensures

pub returns-in-Encode : goal.returns-in-Encode
returns-in-Encode g c = rw c.in-Encode.is (rw c.encode_fault.ensures at c.fail.ensures.line, c.fail.ensures.status)

pub returns-in-Header : goal.returns-in-Header
returns-in-Header g c = rw c.in-Header.is (c.fail-in-Header.ensures.line, c.fail-in-Header.ensures.status)

pub returns-in-BadRow : goal.returns-in-BadRow
returns-in-BadRow g c = rw c.in-BadRow.is
    (rw (c.as_str.ensures.value, c.bad_row.ensures) at c.fail-in-BadRow.ensures.line, c.fail-in-BadRow.ensures.status)

pub returns-in-BadCell : goal.returns-in-BadCell
returns-in-BadCell g c = rw c.in-BadCell.is
    (rw (c.as_str-in-BadCell.ensures.value, c.bad_cell.ensures) at c.fail-in-BadCell.ensures.line, c.fail-in-BadCell.ensures.status)

pub returns-in-NoMemory : goal.returns-in-NoMemory
returns-in-NoMemory g c = rw c.in-NoMemory.is (c.fail-in-NoMemory.ensures.line, c.fail-in-NoMemory.ensures.status)

pub returns-in-Read : goal.returns-in-Read
returns-in-Read g c = rw c.in-Read.is (c.fail-in-Read.ensures.line, c.fail-in-Read.ensures.status)

pub returns-in-Write : goal.returns-in-Write
returns-in-Write g c = rw c.in-Write.is (c.fail-in-Write.ensures.line, c.fail-in-Write.ensures.status)
