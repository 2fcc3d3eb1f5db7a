-- What a report told is found of the bytes of its source.
use Rattle.fit_stream.proofs.Common.{◌≡◌, ℕ, List, [], ◌++◌, length, take, reverse, Option, Some, None, Result, Ok, Err, refl, sym, ap, ◌∙◌, subst, arith}
use Rattle.fit_stream.proofs.Common.{append-nil, Global, Appends, chain_limit, Event, AreEvents, ReportFault, Lines, text_of, Channel, IsFound}
use Rattle.std.proofs.lemmas.List.{take-append-le}
use Rattle.std.specs.Io.KnownBytes.{Consumes, IsAtEnd}
use Rattle.std.specs.Prelude.{false}
use Rattle.fit_record.specs.Files.{IsChain}
use Rattle.fit_chain.specs.declared.event.Fault.TheVariants as faults
use Rattle.fit_chain.specs.Checks.{IsFaultOf}
use Rattle.fit_report.specs.declared.fault.ReportFault.TheVariants as reports
use Rattle.fit_report.specs.Reports.{HasTold}
use Rattle.fit_stream.proofs.OneFinding.{refused_alike}
use Rattle.fit_stream.specs.Laws.{HadMemory, HadRoom, ReportsAreFound, StreamsFindOne, reported}

-- what a source had before it gave these
record Parts (bytes taken : List ℕ) (after : Option (List ℕ)) : Type 0 where
  pub rest : List ℕ
  pub joined : bytes ≡ taken ++ rest
  pub end : IsAtEnd after → rest ≡ []

parts : (bytes taken : List ℕ) (after : Option (List ℕ)) → Consumes (Some bytes) after taken → Parts bytes taken after
parts bytes taken None none = absurd none
parts bytes taken (Some rest) is = record { rest = rest; joined = is; end = λ e. e }

-- what is found, and the text that was put
record Finds (line : Lines Global) (first bytes : List ℕ) (heard : List (Event Global)) (sink : Channel) (result : Result (Unit {0}) ReportFault)
    : Type 0 where
  pub answer : Result ℕ ReportFault
  pub same : result ≡ reported answer
  pub memory : HadMemory answer
  pub found : IsFound line first bytes (first ++ text_of line heard) answer
  pub put : Appends sink.before sink.after (text_of line heard)

module _ (line : Lines Global) (first bytes taken : List ℕ) (heard : List (Event Global)) (source sink : Channel) (p : Parts bytes taken source.after)
    (good : source.failed ≡ false) where
  all_taken : IsAtEnd source.after → taken ≡ bytes
  all_taken end = sym (p.joined ∙ ap (λ r. taken ++ r) (p.end end) ∙ append-nil taken)

  told_found : (result : Result (Unit {0}) ReportFault) → HasTold line taken source sink heard result → HadRoom result
      → Finds line first bytes heard sink result
  told_found (Ok done) (end, well, (fs, chain), (are, put)) had = record {
    answer = Ok (length fs);
    same = refl;
    memory = tt;
    found = (
      (fs, subst (IsChain chain_limit fs) (all_taken end) chain, refl),
      (heard, subst (λ b. AreEvents b (reverse heard)) (all_taken end) are, refl),
    );
    put = put;
  }
  told_found (Err (reports.Decode (faults.Refused place reason))) ((within, near, why, fresh), (are, put)) had =
      let there : take place taken ≡ take place bytes =
      sym (ap (take place) p.joined ∙ take-append-le place taken p.rest (omega (arith, within))) in
      record {
        answer = Err (reports.Decode (faults.Refused place reason));
        same = refl;
        memory = tt;
        found = (
          subst (λ b. IsFaultOf b (faults.Refused place reason)) (sym p.joined) (refused_alike taken [] p.rest place reason within
              (subst (λ b. IsFaultOf b (faults.Refused place reason)) (sym (append-nil taken)) (within, why))),
          (heard, subst (λ b. AreEvents b (reverse heard)) there are, refl),
        );
        put = put;
      }
  told_found (Err (reports.Decode (faults.Truncated place))) ((is, end, viable, none, fresh), (are, put)) had = record {
    answer = Err (reports.Decode (faults.Truncated place));
    same = refl;
    memory = tt;
    found = (
      subst (λ b. IsFaultOf b (faults.Truncated place)) (all_taken end) (is, viable, none),
      (heard, subst (λ b. AreEvents b (reverse heard)) (all_taken end) are, refl),
    );
    put = put;
  }
  told_found (Err (reports.Decode (faults.NoMemory used))) none had = absurd none
  told_found (Err (reports.Decode (faults.Read place))) ((is, bad, viable), tells) had = absurd cc
  told_found (Err reports.NoMemory) told none = absurd none
  told_found (Err (reports.Write written)) told none = absurd none

pub reports_are_found : StreamsFindOne → ReportsAreFound
reports_are_found one line first bytes text source sink result answer are (taken, heard, eats, told, good) had found memory =
    let finds = told_found line first bytes taken heard source sink (parts bytes taken source.after eats) good result told had in
    let alike = one line first bytes text (first ++ text_of line heard) answer finds.answer are found finds.found memory finds.memory in
    (finds.same ∙ ap reported (sym alike.0), text_of line heard, alike.1, finds.put)
