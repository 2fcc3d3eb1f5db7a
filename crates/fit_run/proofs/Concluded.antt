-- What was said of a conversion whose input is a chain, or the text of one.
use Rattle.fit_run.proofs.Common.{◌≡◌, inr, inl, false, ℕ, List, Result, Ok, Err, Channel, CsvFault, ConvertsTo, FromTextOf, Row, csv_text}
use Rattle.fit_run.proofs.Common.{Concludes, IsWritten}
use Rattle.std.proofs.Common.{OnOk}
use Rattle.fit_chain.specs.declared.event.Fault.TheVariants.{Refused, Truncated, NoMemory, Read}
use Rattle.fit_csv.specs.declared.fault.CsvFault.TheVariants as csv

pub concluded : (rows : List Row) (source output faults : Channel) (status : ℕ) (answer : Result (Unit {0}) CsvFault) → source.failed ≡ false
    → output.failed ≡ false
    → ConvertsTo rows source output answer → Concludes answer faults status → IsWritten (csv_text rows) output status
concluded rows source output faults status (Ok x) well good put (keeps, is) = inr (is, put)
concluded rows source output faults status (Err (csv.Decode (Read place))) well good bad said = absurd cc
concluded rows source output faults status (Err csv.NoMemory) well good some (puts, is) = inl is
concluded rows source output faults status (Err (csv.Write written)) well good bad said = absurd cc
concluded rows source output faults status answer well good none said = absurd none

-- what holds where the answer is good holds where the status is 0
pub good_status : {T : Type 0} (faults : Channel) (status : ℕ) (answer : Result (Unit {0}) CsvFault) → status ≡ 0 → Concludes answer faults status
    → OnOk answer T → T
good_status faults status (Ok x) zero said good = good
good_status faults status (Err (csv.Decode (Refused place reason))) zero (puts, is) good = absurd cc
good_status faults status (Err (csv.Decode (Truncated place))) zero (puts, is) good = absurd cc
good_status faults status (Err (csv.Decode (Read place))) zero (puts, is) good = absurd cc
good_status faults status (Err (csv.Decode (NoMemory used))) zero (puts, is) good = absurd cc
good_status faults status (Err (csv.Encode fault)) zero (puts, is) good = absurd cc
good_status faults status (Err csv.Header) zero (puts, is) good = absurd cc
good_status faults status (Err (csv.BadRow row)) zero (puts, is) good = absurd cc
good_status faults status (Err (csv.BadCell row column)) zero (puts, is) good = absurd cc
good_status faults status (Err csv.NoMemory) zero (puts, is) good = absurd cc
good_status faults status (Err csv.Read) zero (puts, is) good = absurd cc
good_status faults status (Err (csv.Write written)) zero (puts, is) good = absurd cc

pub text_concluded : (bytes : List ℕ) (source output faults : Channel) (status : ℕ) (answer : Result (Unit {0}) CsvFault) → source.failed ≡ false
    → output.failed ≡ false
    → FromTextOf bytes source output answer → Concludes answer faults status → IsWritten bytes output status
text_concluded bytes source output faults status (Ok x) well good put (keeps, is) = inr (is, put.0)
text_concluded bytes source output faults status (Err csv.NoMemory) well good some (puts, is) = inl is
text_concluded bytes source output faults status (Err csv.Read) well good bad said = absurd cc
text_concluded bytes source output faults status (Err (csv.Write written)) well good stops said = let bad = stops.stopped in absurd cc
text_concluded bytes source output faults status answer well good none said = absurd none
