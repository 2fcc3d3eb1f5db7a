-- What a report put after a first line.
use Rattle.fit_csv.proofs.Common.{◌≡◌, ◌∙◌, ◌+◌, ◌-◌, ◌^◌, min, true, Bool, [], ◌++◌, length, take, Result, Err, sym, ap, subst, arith, flat_map, Global}
use Rattle.fit_csv.proofs.Common.{Appends, reverse-reverse, take-append-add, FitFile, chain_limit, Event, file_events, Lines, text_of, Channel}
use Rattle.fit_csv.proofs.Common.{TextFailsIn, HasTold, Reports, ReportsChain, Tells, CsvFault, csv_text, Converts, ConvertsTo, HasWritten, RowsOf, WritesRows}
use Rattle.fit_csv.proofs.Common.{HasText, csv_fault}
use Rattle.std.proofs.Common.{ℕ, ◌<◌, List, reverse, Option, Ok, length-append}
use Rattle.std.proofs.lemmas.List.{append-nil}
use Rattle.fit_decode.proofs.FileRead.{nothing_viable}
use Rattle.fit_report.specs.declared.fault.ReportFault.{ReportFault}
use Rattle.fit_report.proofs.Outcomes.{all_viable, nothing_heard}
use Rattle.fit_encode.proofs.Written.{Appends-on}
use Rattle.fit_chain.specs.declared.event.Fault.TheVariants as faults
use Rattle.fit_report.specs.declared.fault.ReportFault.TheVariants as report
use Rattle.fit_csv.specs.declared.fault.CsvFault.TheVariants as csv
use Rattle.fit_decode.proofs.Consumed.{Consumes-nothing}

-- the answer of a conversion by that of its report
abbrev pub csv_answer : Result (Unit {0}) ReportFault → ℕ → Result (Unit {0}) CsvFault
csv_answer (Ok u) before = Ok u
csv_answer (Err fault) before = Err (csv_fault fault before)

abbrev channel : Option (List ℕ) → Option (List ℕ) → Bool → Channel
channel before after failed = record { before = before; after = after; failed = failed }

module _ (first : List ℕ) (line : Lines Global) (rows : RowsOf) (text : HasText first line rows) (start mid end : Option (List ℕ)) (bad : Bool) where
  -- the rows of what was told
  writes : (bytes : List ℕ) (heard : List (Event Global)) → Appends start mid first → Tells line bytes heard (channel mid end bad)
      → WritesRows rows bytes (channel start end bad)
  writes bytes heard put (are, told) = (
    reverse heard,
    are,
    subst (Appends start end) (sym (text heard)) (Appends-on start mid end first (text_of line heard) put told),
  )

  fails : (heard : List (Event Global)) (written : ℕ) → Appends start mid first → TextFailsIn (text_of line heard) (channel mid end bad) written
      → TextFailsIn (csv_text (rows (reverse heard))) (channel start end bad) (min (written + length first) (2 ^ 64 - 1))
  fails heard written put (failed, n, short, part, counted) =
      let front : take (length first + n) (first ++ text_of line heard) ≡ first ++ take n (text_of line heard) =
      take-append-add first (text_of line heard) n in (
        failed,
        length first + n,
        omega (arith, short, ap length (text heard), length-append first (text_of line heard)),
        subst (λ t. Appends start end (take (length first + n) t)) (sym (text heard))
            (subst (Appends start end) (sym front) (Appends-on start mid end first (take n (text_of line heard)) put part)),
        omega (arith, counted),
      )

  written_as : (taken : List ℕ) (heard : List (Event Global)) (source : Channel) (result : Result (Unit {0}) ReportFault) → Appends start mid first
      → HasTold line taken source (channel mid end bad) heard result
      → HasWritten rows taken source (channel start end bad) (csv_answer result (length first))
  written_as taken heard source (Ok u) put (ended, well, chain, tells) = (ended, well, chain, writes taken heard put tells)
  written_as taken heard source (Err (report.Decode (faults.Refused place reason))) put (why, tells) = (why, writes (take place taken) heard put tells)
  written_as taken heard source (Err (report.Decode (faults.Truncated place))) put (why, tells) = (why, writes taken heard put tells)
  written_as taken heard source (Err (report.Decode (faults.NoMemory used))) put never = absurd never
  written_as taken heard source (Err (report.Decode (faults.Read place))) put (why, tells) = (why, writes taken heard put tells)
  written_as taken heard source (Err report.NoMemory) put ((k, told, tells, wants), good) = ((k, writes (take k taken) told put tells, wants), good)
  written_as taken heard source (Err (report.Write written)) put ((k, told, are, part), near, good) =
      ((k, reverse told, are, fails told written put part), near)

  pub converted : {R : Type 0} (has_heard : R → List (Event Global) → Type 0) (reporter : R) (source : Channel) (result : Result (Unit {0}) ReportFault)
      → Appends start mid first → Reports has_heard reporter line source (channel mid end bad) result
      → Converts rows source (channel start end bad) (csv_answer result (length first))
  converted has_heard reporter source result put (taken, heard, eaten, told, has) = (taken, eaten, written_as taken heard source result put told)

  -- of a chain
  pub chain_converted : (source : Channel) (fs : List (FitFile Global)) (result : Result (Unit {0}) ReportFault) → Appends start mid first
      → ReportsChain line fs source (channel mid end bad) result
      → ConvertsTo (rows (flat_map file_events fs)) source (channel start end bad) (csv_answer result (length first))
  chain_converted source fs (Ok u) put told =
      let events : List (Event Global) = flat_map file_events fs in
      let all : csv_text (rows events) ≡ first ++ text_of line (reverse events) =
      ap (λ es. csv_text (rows es)) (sym (reverse-reverse events)) ∙ text (reverse events) in
      subst (Appends start end) (sym all) (Appends-on start mid end first (text_of line (reverse events)) put told)
  chain_converted source fs (Err (report.Decode (faults.Refused place reason))) put told = told
  chain_converted source fs (Err fault) put told = told

  -- the sink has failed in the first line
  pub unbegun : (has : Option (List ℕ)) (unread : Bool) (written : ℕ) → length first < 1000 → written < length first → bad ≡ true
      → Appends start end (take written first)
      → Converts rows (channel has has unread) (channel start end bad) (Err (csv.Write written))
  unbegun has unread written small short failed part =
      let whole : csv_text (rows []) ≡ first = text [] ∙ append-nil first in (
        [],
        Consumes-nothing has,
        (
          (
            0,
            [],
            nothing_heard Global,
            (
              failed,
              written,
              omega (arith, short, ap length whole),
              subst (λ t. Appends start end (take written t)) (sym whole) part,
              omega (arith, small, short),
            ),
          ),
          all_viable chain_limit [] (nothing_viable Global),
        ),
      )
