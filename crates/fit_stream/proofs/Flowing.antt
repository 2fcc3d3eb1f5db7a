-- What has flowed through a lane, by what its telling told.
use Rattle.fit_stream.proofs.Common.{◌≡◌, ℕ, ◌+◌, List, [], ◌++◌, length, take, drop, get_or, reverse, Option, Some, None, Result, Ok, Err, refl, sym, ap}
use Rattle.fit_stream.proofs.Common.{◌∙◌, subst, arith, append_assoc, length-append, take-append-add, take-append_seam, append-nil, get_or-append-add}
use Rattle.fit_stream.proofs.Common.{take-append-drop, Global, Appends, FitFile, chain_limit, IsViable, Fault, AreChain, Event, AreEvents}
use Rattle.fit_stream.proofs.Common.{IsAny, MayLackMemory, Progress, HasCome, at_header, IsRefused, ReportFault, Lines, text_of, Channel, Stands}
use Rattle.fit_stream.proofs.Common.{Stops, TellsMore, HasLines, IsFound, IsGoodSoFar, StopsIn, EndsFlow, FeedsFlow, Flow, Seen, IsOk, IsErr, ◌↔◌, ◌≢◌}
use Rattle.fit_chain.proofs.Faults.{chain_come}
use Rattle.fit_chain.specs.declared.event.Fault.TheVariants as faults
use Rattle.fit_report.specs.declared.fault.ReportFault.TheVariants as reports

-- ---- what was taken of a text that was put

module _ (first taken kept told text : List ℕ) (held now : Option (List ℕ)) (is_kept : held ≡ Some kept) (joined : taken ++ kept ≡ first ++ told)
    (is_text : Some text ≡ now) where
  pub taken_after : (put : List ℕ) → Appends held now put → taken ++ text ≡ first ++ (told ++ put)
  taken_after put more =
      let grown : Appends (Some kept) (Some text) put =
      subst (λ h. Appends h (Some text) put) is_kept (subst (λ n. Appends held n put) (sym is_text) more) in
      ap (λ t. taken ++ t) grown ∙ sym (append_assoc taken kept put) ∙ ap (λ t. t ++ put) joined ∙ append_assoc first told put

-- a sink that had nothing has the first line
pub kept_first : (before after : Option (List ℕ)) (items first : List ℕ) → before ≡ Some items → items ≡ [] → Appends before after first → after ≡ Some first
kept_first before after items first is none put =
    let begun : Appends (Some []) after first =
    subst (λ (b : Option (List ℕ)). Appends b after first) (is ∙ ap (λ (l : List ℕ). Some l) none) put in
    only after first begun
  where
    only : (after : Option (List ℕ)) (first : List ℕ) → Appends (Some []) after first → after ≡ Some first
    only None first none = absurd none
    only (Some now) first is = ap (λ (l : List ℕ). Some l) is

-- ---- a fault

module _ {R : Type 0} (has_heard : R → List (Event Global) → Type 0) (line : Lines Global) (first bytes piece taken kept told text : List ℕ) (reporter : R)
    (sink : Channel) (is_kept : sink.before ≡ Some kept) (joined : taken ++ kept ≡ first ++ told) (is_text : Some text ≡ sink.after) where
  after : (put : List ℕ) → Appends sink.before sink.after put → taken ++ text ≡ first ++ (told ++ put)
  after = taken_after first taken kept told text sink.before sink.after is_kept joined is_text

  lines : (k : ℕ) (heard : List (Event Global)) → TellsMore line (bytes ++ take k piece) told heard sink
      → HasLines line first (bytes ++ take k piece) (taken ++ text)
  lines k heard (are, put, is, more) = (heard, are, after put more ∙ ap (λ t. first ++ t) (sym is))

  pub stops_in : (fault : ReportFault) → Stops has_heard line bytes told piece reporter sink fault
      → StopsIn line first bytes piece (taken ++ text) fault
  stops_in (reports.Decode (faults.Refused place reason)) (k, within, is, why, heard, has, tells) = (k, within, is, why, lines k heard tells)
  stops_in (reports.Decode fault) none = absurd none
  stops_in reports.NoMemory (k, heard, tells, lacks) = (k, lines k heard tells, lacks)
  stops_in (reports.Write count) (k, heard, viable, are, put, is, bad, n, short, more, counted) = (
    k,
    heard,
    viable,
    are,
    length told + n,
    omega (arith, short, ap length is, length-append told put),
    after (take n put) more ∙ ap (λ t. first ++ t) (sym (take-append-add told put n) ∙ ap (take (length told + n)) (sym is)),
    counted,
  )

-- What has stopped in a piece is found of all bytes.
module _ (line : Lines Global) (first bytes piece text : List ℕ) where
  front_of : (k : ℕ) → bytes ++ take k piece ≡ take (length bytes + k) (bytes ++ piece)
  front_of k = sym (take-append-add bytes piece k)

  pub stop_found : (fault : ReportFault) → StopsIn line first bytes piece text fault → IsFound line first (bytes ++ piece) text (Err fault)
  stop_found (reports.Decode (faults.Refused place reason)) (k, within, is, why, lines) =
      let there : bytes ++ take k piece ≡ take place (bytes ++ piece) = front_of k ∙ ap (λ n. take n (bytes ++ piece)) (sym is) in
      let byte : get_or piece k 0 ≡ get_or (bytes ++ piece) place 0 = sym (get_or-append-add bytes piece k 0) ∙ ap (λ n. get_or (bytes ++ piece) n 0) (sym is)
      in (
        (
          omega (arith, is, within, length-append bytes piece),
          subst (λ b. IsRefused Global chain_limit (take place (bytes ++ piece)) b reason) byte
              (subst (λ t. IsRefused Global chain_limit t (get_or piece k 0) reason) there why),
        ),
        subst (λ t. HasLines line first t text) there lines,
      )
  stop_found (reports.Decode fault) none = absurd none
  stop_found reports.NoMemory (k, lines, lacks) =
      let told : List ℕ = bytes ++ take k piece in
      let parts : told ++ drop k piece ≡ bytes ++ piece =
      append_assoc bytes (take k piece) (drop k piece) ∙ ap (λ l. bytes ++ l) (take-append-drop k piece) in
      let same : told ≡ take (length told) (bytes ++ piece) = sym (take-append_seam told (drop k piece)) ∙ ap (take (length told)) parts in (
        length told,
        subst (λ t. HasLines line first t text) same lines,
        lacks.0,
        lacks.1,
        subst (λ b. MayLackMemory Global IsAny chain_limit b lacks.0) parts lacks.2,
      )
  stop_found (reports.Write count) (k, heard, viable, are, n, short, is, counted) = (
    length bytes + k,
    heard,
    subst (IsViable Global chain_limit) (front_of k) viable,
    subst (λ t. AreEvents t (reverse heard)) (front_of k) are,
    n,
    short,
    is,
  )

  -- bytes that end too soon stop nothing
  pub may_go_on : (fault : ReportFault) → StopsIn line first bytes piece text fault → (place : ℕ) → fault ≢ reports.Decode (faults.Truncated place)
  may_go_on (reports.Decode (faults.Refused place reason)) stops other = λ is. absurd cc
  may_go_on (reports.Decode (faults.Truncated place)) none other = absurd none
  may_go_on (reports.Decode (faults.NoMemory used)) none other = absurd none
  may_go_on (reports.Decode (faults.Read place)) none other = absurd none
  may_go_on reports.NoMemory stops other = λ is. absurd cc
  may_go_on (reports.Write count) stops other = λ is. absurd cc

-- ---- no fault

module _ {R : Type 0} {has_heard : R → List (Event Global) → Type 0} {line : Lines Global} {reporter : R} {bytes : List ℕ} {held now : Option (List ℕ)}
    {written : ℕ} (first taken kept told : List ℕ) (s : Stands has_heard line reporter bytes told held now written) (is_kept : held ≡ Some kept)
    (joined : taken ++ kept ≡ first ++ told) (text : List ℕ) (is_text : Some text ≡ now) where
  pub all_taken : taken ++ text ≡ first ++ text_of line s.heard
  all_taken = taken_after first taken kept told text held now is_kept joined is_text s.text s.put ∙ ap (λ t. first ++ t) (sym s.is_text)

  told_lines : HasLines line first bytes (taken ++ text)
  told_lines = (s.heard, s.are, all_taken)

  pub goes_well : (files : ℕ) → IsViable Global chain_limit bytes → ((fs : List (FitFile Global)) (g : Progress Global) → HasCome fs g bytes
      → files ≡ length fs)
      → IsGoodSoFar line first bytes (taken ++ text) files
  goes_well files viable counts =
      let (fs, g, come, is) = s.are in record { viable = viable; lines = told_lines; ended = (fs, g, come, counts fs g come) }

  -- at the end of the input
  pub ends_well : (files : ℕ) → AreChain Global bytes → ((fs : List (FitFile Global)) (g : Progress Global) → HasCome fs g bytes → files ≡ length fs)
      → IsFound line first bytes (taken ++ text) (Ok files)
  ends_well files (fs, chain) counts = ((fs, chain, sym (counts fs (at_header []) (chain_come bytes (fs, chain)))), told_lines)

  pub ends_short : (fault : Fault) → IsViable Global chain_limit bytes → (AreChain Global bytes → ⊥) → fault ≡ faults.Truncated (length bytes)
      → IsFound line first bytes (taken ++ text) (Err (reports.Decode fault))
  ends_short fault viable none is =
      subst (λ f. IsFound line first bytes (taken ++ text) (Err (reports.Decode f))) (sym is) ((refl, viable, none), told_lines)

  -- The next text begins anew.
  pub stands_anew : (next : Option (List ℕ)) → next ≡ Some [] → Stands has_heard line reporter bytes (text_of line s.heard) next next written
  stands_anew next none = record {
    heard = s.heard;
    has = s.has;
    are = s.are;
    text = [];
    is_text = sym (append-nil (text_of line s.heard));
    put = subst (λ n. Appends n n []) (sym none) refl;
    counted = s.counted;
  }

-- ---- what was found at the end

pub chain_found : (result : Result (Unit {0}) Fault) (now : Seen) (x : Unit {0}) → IsOk result ↔ ((now.refusal ≡ None) × AreChain Global now.bytes)
    → result ≡ Ok x → AreChain Global now.bytes
chain_found (Ok y) now x good is = (good.0 refl).1
chain_found (Err fault) now x good is = absurd cc

pub short_found : (result : Result (Unit {0}) Fault) (now : Seen) (fault : Fault) → IsOk result ↔ ((now.refusal ≡ None) × AreChain Global now.bytes)
    → (now.refusal ≡ None → IsErr result → result ≡ Err (faults.Truncated (length now.bytes))) → now.refusal ≡ None → result ≡ Err fault
    → (AreChain Global now.bytes → ⊥) × (fault ≡ faults.Truncated (length now.bytes))
short_found (Ok y) now fault good truncated fresh is = absurd cc
short_found (Err other) now fault good truncated fresh is = (λ chain. let ok = good.1 (fresh, chain) in absurd cc, let t = truncated fresh refl in cc)

-- ---- after a fault

module _ (line : Lines Global) (first : List ℕ) (old : Flow) (text : List ℕ) (fault : ReportFault) (none : text ≡ []) (is : old.fault ≡ Some fault)
    (found : IsFound line first old.bytes old.text (Err fault)) where
  nothing_more : old.text ≡ old.text ++ text
  nothing_more = sym (ap (λ t. old.text ++ t) none ∙ append-nil old.text)

  again : (other : ReportFault) → old.fault ≡ Some other → fault ≡ other
  again other was = cc

  pub fed_again : ((place : ℕ) → fault ≢ reports.Decode (faults.Truncated place)) → (piece : List ℕ) → FeedsFlow line first old old piece text (Err fault)
  fed_again may piece = record {
    handed = nothing_more;
    latched = λ other was. (refl, none, ap Err (again other was));
    fed = λ fresh. cc;
    good = tt;
    bad = (is, found);
    stops = λ fresh. absurd cc;
    may_go_on = may;
  }

  pub ended_again : EndsFlow line first old old text (Err fault)
  ended_again = record {
    handed = nothing_more;
    same = (refl, refl);
    latched = λ other was. (none, ap Err (again other was));
    found = found;
    short = λ fresh. absurd cc;
  }
