-- Why there is no table.
use Rattle.fit_examples.proofs.Common.{◌≡◌, ◌∙◌, ℕ, ◌<◌, ◌++◌, true, false, Some, None, List, Ok, Err, arith, take, get_or, length, sym, ap, subst, Global}
use Rattle.fit_examples.proofs.Common.{append-nil, get_or_append_left, take-append-le, chain_limit, IsFaultOf}
use Rattle.std.proofs.Common.{length-append, Option, []}
use Rattle.std.specs.Io.KnownBytes.{Appends}
use Rattle.fit_chain.specs.Checks.{AreChain}
use Rattle.fit_frame.specs.declared.reason.Reason.{Reason}
use Rattle.fit_chain.specs.Refusals.{IsRefused}
use Rattle.fit_report.specs.Reports.{Channel}
use Rattle.fit_csv.specs.declared.fault.CsvFault.{CsvFault}
use Rattle.fit_csv.specs.Conversions.{Converts, ConvertsTo, RowsOf}
use Rattle.fit_cells.specs.Rows.{Row}
use Rattle.fit_examples.specs.Tables.{CsvLacksMemory, IsTableFault}
use Rattle.fit_chain.specs.declared.event.Fault.TheVariants as faults
use Rattle.fit_csv.specs.declared.fault.CsvFault.TheVariants as csv

pub wants_memory : (rows : List Row) (source sink : Channel) (fault : CsvFault) → source.failed ≡ false → ConvertsTo rows source sink (Err fault)
    → CsvLacksMemory fault
wants_memory rows source sink (csv.Decode (faults.Read place)) good failed = let both : true ≡ false = sym failed ∙ good in absurd cc
wants_memory rows source sink csv.NoMemory good some = tt
wants_memory rows source sink (csv.Write written) good some = tt
wants_memory rows source sink fault good none = absurd none

-- what was taken to the end is all there is
pub whole_chain : (rows : RowsOf) (ride left : List ℕ) (sink : Channel) (done : Unit {0})
    → Converts rows (record { before = Some ride; after = Some left; failed = false }) sink (Ok done) → AreChain Global ride
whole_chain rows ride left sink done (taken, all, (ends, good, chain, text)) =
    subst (AreChain Global) (sym (all ∙ ap (λ l. taken ++ l) ends ∙ append-nil taken)) chain

-- a sink that had nothing has the text
pub only_text : (before after : Option (List ℕ)) (own text bytes : List ℕ) → before ≡ Some own → own ≡ [] → Some bytes ≡ after → Appends before after text
    → bytes ≡ text
only_text None after own text bytes is none has put = absurd cc
only_text (Some old) None own text bytes is none has put = absurd put
only_text (Some old) (Some new) own text bytes is none has put =
    let empty : old ≡ [] = cc in let same : bytes ≡ new = cc in same ∙ put ∙ ap (λ l. l ++ text) empty

-- ---- faults of bytes

refused_here : (taken left : List ℕ) (place : ℕ) (reason : Reason) → place < length taken
    → IsRefused Global chain_limit (take place taken) (get_or taken place 0) reason → IsFaultOf (taken ++ left) (faults.Refused place reason)
refused_here taken left place reason within why = (
  omega (arith, within, length-append taken left),
  subst (λ b. IsRefused Global chain_limit (take place (taken ++ left)) b reason) (sym (get_or_append_left taken left 0 place within))
      (subst (λ front. IsRefused Global chain_limit front (get_or taken place 0) reason) (sym (take-append-le place taken left (omega (arith, within)))) why),
)

-- a fault of the bytes taken is one of all bytes, since the source doesn't fail
pub table_fault : (rows : RowsOf) (ride left : List ℕ) (sink : Channel) (fault : CsvFault)
    → Converts rows (record { before = Some ride; after = Some left; failed = false }) sink (Err fault) → IsTableFault ride fault
table_fault rows ride left sink (csv.Decode (faults.Refused place reason)) (taken, all, (ends, text)) =
    subst (λ bytes. IsFaultOf bytes (faults.Refused place reason)) (sym all) (refused_here taken left place reason ends.0 ends.2)
table_fault rows ride left sink (csv.Decode (faults.Truncated place)) (taken, all, (ends, text)) =
    subst (λ bytes. IsFaultOf bytes (faults.Truncated place)) (sym (all ∙ ap (λ l. taken ++ l) ends.1 ∙ append-nil taken)) (ends.0, ends.2, ends.3)
table_fault rows ride left sink (csv.Decode (faults.Read place)) (taken, all, (ends, text)) = let both : true ≡ false = sym ends.1 in absurd cc
table_fault rows ride left sink csv.NoMemory some = tt
table_fault rows ride left sink (csv.Write written) some = tt
table_fault rows ride left sink fault (taken, all, none) = none
