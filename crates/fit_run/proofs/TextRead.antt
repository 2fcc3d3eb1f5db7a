-- What `from-csv` leaves of the sink, by the answer of the conversion.
use Rattle.fit_run.proofs.Common.{◌≡◌, List, ℕ, Option, Result, Ok, Err, ap, CsvFault, Write, UnlessWritten}
use Rattle.std.specs.Prelude.{IfErr, OnOk, false}
use Rattle.fit_csv.specs.FromText.{ReadsText}
use Rattle.fit_report.specs.Reports.{Channel}

unless_written : (fault : CsvFault) (P Q : Type 0) → (P → Q) → UnlessWritten fault P → UnlessWritten fault Q
unless_written (Write written) P Q f p = p
unless_written fault P Q f p = f p

-- where the sink is as it was, it holds what it held
pub text_kept : {K : Type 0} (contents : K → Option (List ℕ)) (old new : K) (answer : Result (Unit {0}) CsvFault)
    → IfErr answer (λ fault. UnlessWritten fault (new ≡ old))
    → IfErr answer (λ fault. UnlessWritten fault (contents new ≡ contents old))
text_kept contents old new (Ok u) same = tt
text_kept contents old new (Err fault) same = unless_written fault (new ≡ old) (contents new ≡ contents old) (λ e. ap contents e) same

-- where it is good, the sink has not failed
pub text_works : (source sink : Channel) (answer : Result (Unit {0}) CsvFault) → ReadsText source sink answer → OnOk answer (sink.failed ≡ false)
text_works source sink (Ok x) (text, took, (out, (files, bytes, is, put, good))) = good
text_works source sink (Err fault) reads = tt
