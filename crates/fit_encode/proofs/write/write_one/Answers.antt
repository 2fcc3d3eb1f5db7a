use Rattle.fit_encode.proofs.Common.{arith, file_bytes}
use Rattle.fit_encode.proofs.Lengths.{file_short, some_file_byte}
use Rattle.fit_encode.proofs.Sendings.{stops_in}
use Rattle.fit_encode.proofs.write.write_one.Goals as goal

pub returns-in-Err-write_file-clause-written : goal.returns-in-Err-write_file-clause-written
returns-in-Err-write_file-clause-written g c =
    let f = c.args.file.now in
    let short = file_short f c.in-Ok.ensures.ok.0 in
    stops_in (file_bytes f) (omega (arith, short)) c.in-Err-write_file.ensures

pub returns-clause-works : goal.returns-clause-works
returns-clause-works g c = c.in_default.ensures.2 (some_file_byte c.args.file.now)
