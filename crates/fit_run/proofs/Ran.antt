-- What a command did: a report, and what was said of it.
use Rattle.fit_run.proofs.Common.{◌≡◌, ◌⊎◌, inl, inr, Bool, false, ℕ, ◌+◌, List, ◌++◌, length, take, reverse, Option, Result, Ok, Err, sym, ap, ◌∙◌, subst}
use Rattle.fit_run.proofs.Common.{arith, length-append, flat_map, Appends, Consumes, FitFile, Refused, Truncated, Event, file_events, Lines, text_of, Channel}
use Rattle.fit_run.proofs.Common.{HasTold, Reports, ReportsChain, ok_line, WritesLines, Runs}
use Rattle.std.proofs.Math.Seq.{take-append-add}
use Rattle.fit_chain.specs.declared.event.Fault.TheVariants.{NoMemory, Read}
use Rattle.fit_report.specs.declared.fault.ReportFault.{ReportFault}
use Rattle.fit_encode.proofs.Written.{Appends-on}
use Rattle.fit_run.specs.inner.Finishing.{Finishes}
use Rattle.fit_report.specs.declared.fault.ReportFault.TheVariants as report

writes_on : (start mid after : Option (List ℕ)) (failed : Bool) (faults : Channel) (status : ℕ) (text lines : List ℕ) (wanted : ℕ) → Appends start mid text
    → WritesLines lines wanted (record { before = mid; after = after; failed = failed }) faults status
    → WritesLines (text ++ lines) wanted (record { before = start; after = after; failed = failed }) faults status
writes_on start mid after failed faults status text lines wanted put (inl (more, keeps, is)) =
    inl (Appends-on start mid after text lines put more, keeps, is)
writes_on start mid after failed faults status text lines wanted put (inr (bad, n, short, more, puts, is)) =
    let front : take (length text + n) (text ++ lines) ≡ text ++ take n lines = take-append-add text lines n in
    inr (
      bad,
      length text + n,
      omega (arith, short, length-append text lines),
      subst (Appends start after) (sym front) (Appends-on start mid after text (take n lines) put more),
      puts,
      is,
    )

module _ {K : Type 0} (contents : K → Option (List ℕ)) (has_failed : K → Bool) (old new : K) (start : Option (List ℕ)) (source faults : Channel) (status : ℕ)
  where
    abbrev pub told : Channel
    told = record { before = start; after = contents old; failed = has_failed old }

    abbrev pub said : Channel
    said = record { before = contents old; after = contents new; failed = has_failed new }

    abbrev pub all : Channel
    all = record { before = start; after = contents new; failed = has_failed new }

    module _ {A : Type 0} (line : Lines A) (heard : List (Event A)) where
      on : (lines : List ℕ) (wanted : ℕ) → Appends start (contents old) (text_of line heard) → WritesLines lines wanted said faults status
          → WritesLines (text_of line heard ++ lines) wanted all faults status
      on lines wanted put writes = writes_on start (contents old) (contents new) (has_failed new) faults status (text_of line heard) lines wanted put writes

      ran_so : (answer : Result (Unit {0}) ReportFault)
          → (taken : List ℕ) × Consumes source.before source.after taken × HasTold line taken source told heard answer
          → Finishes answer old new said faults status → Runs line source all faults status
      ran_so (Ok x) (taken, eats, (end, well, chain, tells)) writes = (taken, eats, inl (Ok tt, heard, (end, well, chain), tells.0, on _ 0 tells.1 writes))
      ran_so (Err (report.Decode (Refused place reason))) (taken, eats, (fault, tells)) writes =
          (taken, eats, inl (Err (Refused place reason), heard, fault, tells.0, on _ 1 tells.1 writes))
      ran_so (Err (report.Decode (Truncated place))) (taken, eats, (fault, tells)) writes =
          (taken, eats, inl (Err (Truncated place), heard, fault, tells.0, on _ 1 tells.1 writes))
      ran_so (Err (report.Decode (NoMemory used))) (taken, eats, none) writes = absurd none
      ran_so (Err (report.Decode (Read place))) (taken, eats, (fault, tells)) (same, puts, is) = (
        taken,
        eats,
        inl (
          Err (Read place),
          heard,
          fault,
          tells.0,
          (subst (λ k. Appends start (contents k) (text_of line heard)) (sym same) tells.1, puts, is),
        ),
      )
      ran_so (Err report.NoMemory) (taken, eats, ((k, some, (are, put), wants), good)) (same, puts, is) =
          (taken, eats, inr (k, some, are, inl (subst (λ o. Appends start (contents o) (text_of line some)) (sym same) put, puts, is, wants), good))
      ran_so (Err (report.Write written)) (taken, eats, ((k, some, are, (bad, n, short, put, counted)), near, good)) (same, puts, is) = (
        taken,
        eats,
        inr (
          k,
          some,
          are,
          inr (
            (
              ap has_failed same ∙ bad,
              n,
              short,
              subst (λ o. Appends start (contents o) (take n (text_of line some))) (sym same) put,
              puts,
              is,
            ),
            near,
          ),
          good,
        ),
      )

    pub ran : {A R : Type 0} (has_heard : R → List (Event A) → Type 0) (reporter : R) (line : Lines A) (answer : Result (Unit {0}) ReportFault)
        → Reports has_heard reporter line source told answer → Finishes answer old new said faults status → Runs line source all faults status
    ran has_heard reporter line answer (taken, heard, eats, says, has) = ran_so line heard answer (taken, eats, says)

    -- Where the input is a chain and neither the source nor the output has failed.
    module _ {A : Type 0} (line : Lines A) (fs : List (FitFile A)) (well : source.failed ≡ false) (good : has_failed new ≡ false) where
      abbrev pub Good : Type 0
      Good = (status ≡ 3) ⊎ ((status ≡ 0) × Appends start (contents new) (text_of line (reverse (flat_map file_events fs)) ++ ok_line))

      pub ran_chain : (answer : Result (Unit {0}) ReportFault) → ReportsChain line fs source told answer → Finishes answer old new said faults status → Good
      ran_chain (Ok x) put (inl (more, keeps, is)) =
          inr (is, Appends-on start (contents old) (contents new) (text_of line (reverse (flat_map file_events fs))) ok_line put more)
      ran_chain (Ok x) put (inr (bad, n, short, more, puts, is)) = absurd cc
      ran_chain (Err (report.Decode (Refused place reason))) none writes = absurd none
      ran_chain (Err (report.Decode (Truncated place))) none writes = absurd none
      ran_chain (Err (report.Decode (NoMemory used))) none writes = absurd none
      ran_chain (Err (report.Decode (Read place))) bad writes = absurd cc
      ran_chain (Err report.NoMemory) some (same, puts, is) = inl is
      ran_chain (Err (report.Write written)) bad (same, puts, is) = let failed = ap has_failed same in absurd cc
