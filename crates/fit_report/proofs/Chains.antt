-- What a report answers where the input is the bytes of a chain.
use Rattle.fit_report.proofs.Common.{◌≡◌, ℕ, suc, ◌<◌, List, [], ◌∷◌, ◌++◌, length, take, drop, get_or, reverse, Option, Some, None, Result, Ok, Err, refl, sym}
use Rattle.fit_report.proofs.Common.{ap, ◌∙◌, subst, append_assoc, OnOk, flat_map, Appends, Consumes, IsAtEnd, append-nil, take-append-drop, reverse-reverse}
use Rattle.fit_report.proofs.Common.{drop-cons, FitFile, chain_bytes, chain_limit, IsChain, IsViable, Refused, Truncated, Read, NoRoom, Event, AreEvents}
use Rattle.fit_report.proofs.Common.{inl, inr}
use Rattle.fit_report.proofs.Common.{file_events, at_header, ReportFault, Decode, NoMemory, Write, Lines, text_of, Channel, Reports, ReportsChain, HasTold}
use Rattle.fit_report.proofs.Common.{HasHeard}
use Rattle.fit_base.specs.Numbers.{IsBytes}
use Rattle.fit_report.specs.Documents.{document_of, Ending, HasToldDocument, PutsDocument, ReportsChainDocument, ReportsDocument, TakesAll}
use Rattle.fit_chain.proofs.OneReason.{one_list_of_events}
use Rattle.fit_chain.proofs.Whole.{unfinished}

-- the events of a chain
pub chain_events : {A : Type 0} (limit : ℕ) (fs : List (FitFile A)) (bytes : List ℕ) → IsChain limit fs bytes → AreEvents bytes (flat_map file_events fs)
chain_events {A} limit fs bytes chain = (
  fs,
  at_header [],
  record {
    files = chain.0.each;
    next = unfinished A [] (λ h n rest fits is. cc);
    spelled = chain.1 ∙ sym (append-nil (chain_bytes fs));
  },
  sym (append-nil (flat_map file_events fs)),
)

at_place : (got y : List ℕ) (place : ℕ) → place < length got → got ++ y ≡ (take place got ++ get_or got place 0 ∷ []) ++ (drop (suc place) got ++ y)
at_place got y place within =
    ap (λ t. t ++ y) (sym (take-append-drop place got) ∙ ap (λ t. take place got ++ t) (drop-cons got place 0 within))
    ∙ append_assoc (take place got) (get_or got place 0 ∷ drop (suc place) got) y
    ∙ sym (append_assoc (take place got) (get_or got place 0 ∷ []) (drop (suc place) got ++ y))

module _ {A : Type 0} (line : Lines A) (fs : List (FitFile A)) (b : List ℕ) (are : IsBytes b) (chain : IsChain chain_limit fs b) where
  -- all of the input was taken
  whole : (taken y : List ℕ) → b ≡ taken ++ y → y ≡ [] → b ≡ taken
  whole taken y eats end = eats ∙ ap (λ t. taken ++ t) end ∙ append-nil taken

  none_refused : (taken y : List ℕ) (place : ℕ) → b ≡ taken ++ y → place < length taken → IsViable A chain_limit (take place taken ++ get_or taken place 0 ∷ [])
  none_refused taken y place eats within =
      let all = eats ∙ at_place taken y place within in
      (drop (suc place) taken ++ y, fs, subst IsBytes all are, subst (IsChain chain_limit fs) all chain)

  -- what was heard of all of the input is the events of the chain
  chain_heard : (taken y : List ℕ) (heard : List (Event A)) (after : Option (List ℕ)) → IsAtEnd after → after ≡ Some y → b ≡ taken ++ y
      → AreEvents taken (reverse heard) → heard ≡ reverse (flat_map file_events fs)
  chain_heard taken y heard after end is eats events =
      let all : b ≡ taken = whole taken y eats (subst IsAtEnd is end) in
      sym (reverse-reverse heard)
      ∙ ap reverse (one_list_of_events b (reverse heard) (flat_map file_events fs) (subst (λ t. AreEvents t (reverse heard)) (sym all) events)
      (chain_events chain_limit fs b chain))

  told : (taken y : List ℕ) (heard : List (Event A)) (source sink : Channel) (result : Result (Unit {0}) ReportFault) → source.after ≡ Some y → b ≡ taken ++ y
      → HasTold line taken source sink heard result → ReportsChain line fs source sink result
  told taken y heard source sink (Ok x) after eats (end, well, files, tells) =
      subst (λ es. Appends sink.before sink.after (text_of line es)) (chain_heard taken y heard source.after end after eats tells.0) tells.1
  told taken y heard source sink (Err (Decode (Refused place reason))) after eats (fault, tells) = fault.2.refused (none_refused taken y place eats fault.0)
  told taken y heard source sink (Err (Decode (Truncated place))) after eats (fault, tells) =
      fault.3 (fs, subst (IsChain chain_limit fs) (whole taken y eats (subst IsAtEnd after fault.1)) chain)
  told taken y heard source sink (Err (Decode (NoRoom used))) after eats none = none
  told taken y heard source sink (Err (Decode (Read place))) after eats (fault, tells) = fault.1
  told taken y heard source sink (Err NoMemory) after eats (some, good) = good
  told taken y heard source sink (Err (Write count)) after eats ((k, part, some, fails), viable, good) = fails.0

  taken_of : (has : Option (List ℕ)) (taken : List ℕ) → Consumes (Some b) has taken → (y : List ℕ) × (has ≡ Some y) × (b ≡ taken ++ y)
  taken_of None taken eats = absurd eats
  taken_of (Some y) taken eats = (y, refl, eats)

  pub reports_chain : {R : Type 0} (has_heard : R → List (Event A) → Type 0) (reporter : R) (source sink : Channel) (result : Result (Unit {0}) ReportFault)
      → source.before ≡ Some b → Reports has_heard reporter line source sink result → ReportsChain line fs source sink result
  reports_chain has_heard reporter source sink result input (taken, heard, eats, says, has) =
      let t = taken_of source.after taken (subst (λ h. Consumes h source.after taken) input eats) in
      told taken t.0 heard source sink result t.1 t.2 says

  pub hears_chain : {R : Type 0} (has_heard : R → List (Event A) → Type 0) (reporter : R) (source sink : Channel) (result : Result (Unit {0}) ReportFault)
      → source.before ≡ Some b → Reports has_heard reporter line source sink result → OnOk result (has_heard reporter (reverse (flat_map file_events fs)))
  hears_chain has_heard reporter source sink (Err fault) input reports = tt
  hears_chain has_heard reporter source sink (Ok x) input (taken, heard, eats, (end, well, files, tells), has) =
      let t = taken_of source.after taken (subst (λ h. Consumes h source.after taken) input eats) in
      subst (has_heard reporter) (chain_heard taken t.0 heard source.after end t.1 t.2 tells.0) has

  -- the same of a document

  module _ {R : Type 0} (has_heard : R → List (Event A) → Type 0) (reporter : R) (ending : Ending A) (source sink : Channel) (input : source.before ≡ Some b)
      (taken : List ℕ) (heard : List (Event A)) (eats : Consumes source.before source.after taken) where
    same_events : TakesAll taken source heard → heard ≡ reverse (flat_map file_events fs)
    same_events (end, well, files, are) =
        let t = taken_of source.after taken (subst (λ h. Consumes h source.after taken) input eats) in
        chain_heard taken t.0 heard source.after end t.1 t.2 are

    ended : (result : Result (Unit {0}) ReportFault) → TakesAll taken source heard → PutsDocument line ending heard sink result
        → ReportsChainDocument line ending fs source sink result
    ended (Ok x) all puts = subst (λ es. Appends sink.before sink.after (document_of line ending es)) (same_events all) puts
    ended (Err (Decode fault)) all none = absurd none
    ended (Err NoMemory) all puts = all.1
    ended (Err (Write count)) all puts = puts.0

    document_told : (result : Result (Unit {0}) ReportFault) → HasToldDocument line ending taken source sink heard result
        → HasHeard has_heard reporter heard result → ReportsChainDocument line ending fs source sink result
    document_told result (inl (all, puts)) has = ended result all puts
    document_told (Ok x) (inr (bad, told)) has = absurd cc
    document_told (Err fault) (inr (bad, told)) has = reports_chain has_heard reporter source sink (Err fault) input (taken, heard, eats, told, has)

    document_heard : HasToldDocument line ending taken source sink heard (Ok tt) → has_heard reporter heard
        → has_heard reporter (reverse (flat_map file_events fs))
    document_heard (inl (all, puts)) has = subst (has_heard reporter) (same_events all) has
    document_heard (inr (bad, told)) has = absurd cc

  pub document_chain : {R : Type 0} (has_heard : R → List (Event A) → Type 0) (reporter : R) (ending : Ending A) (source sink : Channel)
      (result : Result (Unit {0}) ReportFault) → source.before ≡ Some b → ReportsDocument has_heard reporter line ending source sink result
      → ReportsChainDocument line ending fs source sink result
  document_chain has_heard reporter ending source sink result input (taken, heard, eats, told, has) =
      document_told has_heard reporter ending source sink input taken heard eats result told has

  pub hears_document : {R : Type 0} (has_heard : R → List (Event A) → Type 0) (reporter : R) (ending : Ending A) (source sink : Channel)
      (result : Result (Unit {0}) ReportFault) → source.before ≡ Some b → ReportsDocument has_heard reporter line ending source sink result
      → OnOk result (has_heard reporter (reverse (flat_map file_events fs)))
  hears_document has_heard reporter ending source sink (Err fault) input reports = tt
  hears_document has_heard reporter ending source sink (Ok x) input (taken, heard, eats, told, has) =
      document_heard has_heard reporter ending source sink input taken heard eats told has
