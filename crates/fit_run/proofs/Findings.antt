-- An input has one finding.
use Rattle.fit_run.proofs.Common.{◌≡◌, Bool, ℕ, ◌<◌, suc, false, List, [], ◌∷◌, ◌++◌, length, take, drop, get_or, Option, Some, None, Result, Ok, Err, refl}
use Rattle.fit_run.proofs.Common.{sym, ap, ◌∙◌, subst, append_assoc, arith, take-append-drop, drop-cons, length-append, length-take-le, Consumes}
use Rattle.fit_run.proofs.Common.{take-append-le, get_or_append_left, IsBytes, Reason, IsChain, IsViable, chain_limit, Fault, Refused, Truncated, ReasonsAreOne}
use Rattle.fit_run.proofs.Common.{Channel, FindingsAreOne, HasFound, ReportFinds, good_bytes}
use Rattle.std.proofs.Common.{append-nil}
use Rattle.fit_chain.specs.declared.event.Fault.TheVariants.{NoMemory, Read}
use Rattle.fit_chain.specs.Checks.{AreChain}
use Rattle.fit_chain.specs.Refusals.{IsRefused}

abbrev pub refusal : ℕ → Reason → Result (Unit {0}) Fault
refusal place reason = Err (Refused place reason)

module _ (A : Type 0) where
  -- The byte at this place is refused after those before it.
  abbrev pub IsRefusedAt : List ℕ → ℕ → Reason → Type 0
  IsRefusedAt bytes place reason = IsRefused A chain_limit (take place bytes) (get_or bytes place 0) reason

  -- what a finding says of the whole input
  abbrev pub IsFinding : List ℕ → Result (Unit {0}) Fault → Type 0
  IsFinding input (Ok _) = AreChain A input
  IsFinding input (Err (Refused place reason)) = (place < length input) × IsRefusedAt input place reason
  IsFinding input (Err (Truncated place)) = (place ≡ length input) × IsViable A chain_limit input × (AreChain A input → ⊥)
  IsFinding input (Err (NoMemory used)) = ⊥
  IsFinding input (Err (Read place)) = ⊥

  -- ---- refused bytes

  module _ (x y : List ℕ) (place : ℕ) (reason : Reason) (within : place < length x) where
    front : take place (x ++ y) ≡ take place x
    front = take-append-le place x y (omega (arith, within))

    byte : get_or (x ++ y) place 0 ≡ get_or x place 0
    byte = get_or_append_left x y 0 place within

    in_front : IsRefusedAt (x ++ y) place reason → IsRefusedAt x place reason
    in_front why = subst (λ c. IsRefused A chain_limit (take place x) c reason) byte
        (subst (λ t. IsRefused A chain_limit t (get_or (x ++ y) place 0) reason) front why)

    in_all : IsRefusedAt x place reason → IsRefusedAt (x ++ y) place reason
    in_all why = subst (λ c. IsRefused A chain_limit (take place (x ++ y)) c reason) (sym byte)
        (subst (λ t. IsRefused A chain_limit t (get_or x place 0) reason) (sym front) why)

  begins : (x y : List ℕ) → IsViable A chain_limit (x ++ y) → IsViable A chain_limit x
  begins x y (more, fs, are, chain) = (y ++ more, fs, subst IsBytes (append_assoc x y more) are, subst (IsChain chain_limit fs) (append_assoc x y more) chain)

  parted : (bytes : List ℕ) (place : ℕ) → place < length bytes → bytes ≡ (take place bytes ++ get_or bytes place 0 ∷ []) ++ drop (suc place) bytes
  parted bytes place within =
      sym (take-append-drop place bytes) ∙ ap (λ t. take place bytes ++ t) (drop-cons bytes place 0 within)
      ∙ sym (append_assoc (take place bytes) (get_or bytes place 0 ∷ []) (drop (suc place) bytes))

  never_refused : (bytes : List ℕ) (place : ℕ) (reason : Reason) → IsViable A chain_limit bytes → place < length bytes → IsRefusedAt bytes place reason → ⊥
  never_refused bytes place reason viable within why =
      why.refused (begins (take place bytes ++ get_or bytes place 0 ∷ []) (drop (suc place) bytes)
      (subst (IsViable A chain_limit) (parted bytes place within) viable))

  -- no byte before a refused one is refused
  none_sooner : (bytes : List ℕ) (p q : ℕ) (r s : Reason) → q < length bytes → IsRefusedAt bytes p r → IsRefusedAt bytes q s → p < q → ⊥
  none_sooner bytes p q r s within first second sooner =
      let long : length (take q bytes) ≡ q = length-take-le q bytes (omega arith) in
      let early : p < length (take q bytes) = omega (arith, long, sooner) in
      never_refused (take q bytes) p r second.viable early
      (in_front (take q bytes) (drop q bytes) p r early (subst (λ t. IsRefusedAt t p r) (sym (take-append-drop q bytes)) first))

  -- ---- findings

  chain_viable : (bytes : List ℕ) → IsBytes bytes → AreChain A bytes → IsViable A chain_limit bytes
  chain_viable bytes are (fs, chain) = ([], fs, subst IsBytes (sym (append-nil bytes)) are, subst (IsChain chain_limit fs) (sym (append-nil bytes)) chain)

  module _ (input : List ℕ) (are : IsBytes input) (reasons : ReasonsAreOne A) where
    one_refusal : (p q : ℕ) (r s : Reason) → p < length input → q < length input → IsRefusedAt input p r → IsRefusedAt input q s → refusal p r ≡ refusal q s
    one_refusal p q r s within other first second =
        let early : p < q → ⊥ = none_sooner input p q r s other first second in
        let late : q < p → ⊥ = none_sooner input q p s r within second first in
        let same : p ≡ q = omega (arith, early, late) in
        let reason : r ≡ s = reasons chain_limit (take q input) (get_or input q 0) r s (subst (λ n. IsRefusedAt input n r) same first) second in
        cc

    pub one_finding : (found other : Result (Unit {0}) Fault) → IsFinding input found → IsFinding input other → found ≡ other
    one_finding (Err (NoMemory used)) other none found = absurd none
    one_finding (Err (Read p)) other none found = absurd none
    one_finding (Ok x) (Ok y) chain again = refl
    one_finding (Ok x) (Err (Refused q s)) chain (other, second) = absurd (never_refused input q s (chain_viable input are chain) other second)
    one_finding (Ok x) (Err (Truncated q)) chain (end, viable, short) = absurd (short chain)
    one_finding (Err (Refused p r)) (Ok y) (within, first) chain = absurd (never_refused input p r (chain_viable input are chain) within first)
    one_finding (Err (Refused p r)) (Err (Refused q s)) (within, first) (other, second) = one_refusal p q r s within other first second
    one_finding (Err (Refused p r)) (Err (Truncated q)) (within, first) (end, viable, short) = absurd (never_refused input p r viable within first)
    one_finding (Err (Truncated p)) (Ok y) (end, viable, short) chain = absurd (short chain)
    one_finding (Err (Truncated p)) (Err (Refused q s)) (end, viable, short) (other, second) = absurd (never_refused input q s viable other second)
    one_finding (Err (Truncated p)) (Err (Truncated q)) (end, viable, short) (last, again, cut) = let same : p ≡ q = end ∙ sym last in cc
    one_finding found other first none = absurd none

  -- ---- what a run took

  whole : (taken rest : List ℕ) → rest ≡ [] → taken ≡ taken ++ rest
  whole taken rest none = sym (ap (λ t. taken ++ t) none ∙ append-nil taken)

  -- what was found says so of the whole input
  finding_of_all : (before : Option (List ℕ)) (taken rest : List ℕ) (failed : Bool) (found : Result (Unit {0}) Fault) → failed ≡ false
      → ReportFinds A taken (record { before = before; after = Some rest; failed = failed }) found
      → IsFinding (taken ++ rest) found × (good_bytes found taken ≡ good_bytes found (taken ++ rest))
  finding_of_all before taken rest failed (Ok x) works (end, well, chain) = (subst (AreChain A) (whole taken rest end) chain, whole taken rest end)
  finding_of_all before taken rest failed (Err (Refused place reason)) works (within, near, why, good) =
      ((omega (arith, within, length-append taken rest), in_all taken rest place reason within why), sym (front taken rest place reason within))
  finding_of_all before taken rest failed (Err (Truncated place)) works (is, end, viable, short, well) =
      let all : taken ≡ taken ++ rest = whole taken rest end in
      ((is ∙ ap length all, subst (IsViable A chain_limit) all viable, λ chain. short (subst (AreChain A) (sym all) chain)), all)
  finding_of_all before taken rest failed (Err (NoMemory used)) works none = absurd none
  finding_of_all before taken rest failed (Err (Read place)) works (is, bad, viable) = absurd cc

  finding : (input taken : List ℕ) (before has : Option (List ℕ)) (failed : Bool) (found : Result (Unit {0}) Fault) → before ≡ Some input
      → Consumes before has taken → failed ≡ false
      → ReportFinds A taken (record { before = before; after = has; failed = failed }) found
      → IsFinding input found × (good_bytes found taken ≡ good_bytes found input)
  finding input taken before None failed found is took works finds = absurd (subst (λ b. Consumes b None taken) is took)
  finding input taken before (Some rest) failed found is took works finds =
      let all : input ≡ taken ++ rest = subst (λ b. Consumes b (Some rest) taken) is took in
      subst (λ t. IsFinding t found × (good_bytes found taken ≡ good_bytes found t)) (sym all) (finding_of_all before taken rest failed found works finds)

  pub found : (input taken : List ℕ) (source : Channel) (answer : Result (Unit {0}) Fault) → HasFound A input taken source answer
      → IsFinding input answer × (good_bytes answer taken ≡ good_bytes answer input)
  found input taken source answer h = finding input taken source.before source.after source.failed answer h.before h.took h.works h.finds

pub findings_are_one : {A : Type 0} → ReasonsAreOne A → FindingsAreOne A
findings_are_one {A} reasons input are taken others source other answer again first second =
    let one = found A input taken source answer first in
    let two = found A input others other again second in
    let same : answer ≡ again = one_finding A input are reasons answer again one.0 two.0 in
    (same, one.1 ∙ ap (λ x. good_bytes x input) same ∙ sym two.1)
