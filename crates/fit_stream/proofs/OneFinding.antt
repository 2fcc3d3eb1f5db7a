-- Of some bytes one thing is found, and they have one text.
use Rattle.fit_stream.proofs.Common.{◌≡◌, ℕ, ◌<◌, List, [], ◌++◌, length, take, drop, get_or, reverse, Result, Ok, Err, sym, ap, ◌∙◌, subst, arith}
use Rattle.fit_stream.proofs.Common.{length-append, append-nil, take-append-drop, Global, chain_limit, IsViable, Fault, AreFiles, IsRefused}
use Rattle.fit_stream.proofs.Common.{at_header, ReportFault, Lines, text_of, HasLines, IsFound}
use Rattle.std.proofs.lemmas.List.{take-append-le, get_or_append_left, length-take-le, reverse-reverse}
use Rattle.fit_base.specs.Numbers.{IsBytes}
use Rattle.fit_frame.specs.declared.reason.Reason.{Reason}
use Rattle.fit_chain.specs.declared.event.Fault.TheVariants as faults
use Rattle.fit_chain.specs.Checks.{IsFaultOf}
use Rattle.fit_chain.specs.Laws.{EventsAreOne, ProgressIsOne, ReasonsAreOne}
use Rattle.fit_chain.proofs.Faults.{chain_come, fault_of_chain}
use Rattle.fit_report.specs.declared.fault.ReportFault.TheVariants as reports
use Rattle.fit_report.specs.Reports.{before_fault}
use Rattle.fit_stream.specs.Laws.{StreamsFindOne}

-- ---- where bytes are refused

-- bytes that begin alike are refused alike
pub refused_alike : (x y z : List ℕ) (p : ℕ) (r : Reason) → p < length x → IsFaultOf (x ++ y) (faults.Refused p r) → IsFaultOf (x ++ z) (faults.Refused p r)
refused_alike x y z p r within (short, why) =
    let byte : get_or (x ++ y) p 0 ≡ get_or (x ++ z) p 0 = get_or_append_left x y 0 p within ∙ sym (get_or_append_left x z 0 p within) in
    let front : take p (x ++ y) ≡ take p (x ++ z) = take-append-le p x y (omega (arith, within)) ∙ sym (take-append-le p x z (omega (arith, within))) in (
      omega (arith, within, length-append x z),
      subst (λ b. IsRefused Global chain_limit (take p (x ++ z)) b r) byte
          (subst (λ t. IsRefused Global chain_limit t (get_or (x ++ y) p 0) r) front why),
    )

-- no byte is refused of bytes that begin a chain
none_refused : (x y : List ℕ) (p : ℕ) (r : Reason) → p < length x → IsViable Global chain_limit x → IsFaultOf (x ++ y) (faults.Refused p r) → ⊥
none_refused x y p r within (more, fs, are, chain) fault =
    fault_of_chain (x ++ more) (faults.Refused p r) are (refused_alike x y more p r within fault) (fs, chain)

none_sooner : (bytes : List ℕ) (p q : ℕ) (r s : Reason) → IsFaultOf bytes (faults.Refused p r) → IsFaultOf bytes (faults.Refused q s) → p < q → ⊥
none_sooner bytes p q r s first (within, why) sooner =
    none_refused (take q bytes) (drop q bytes) p r (omega (arith, sooner, length-take-le q bytes (omega (arith, within)))) why.viable
    (subst (λ b. IsFaultOf b (faults.Refused p r)) (sym (take-append-drop q bytes)) first)

one_refusal : ReasonsAreOne Global → (bytes : List ℕ) (p q : ℕ) (r s : Reason) → IsFaultOf bytes (faults.Refused p r) → IsFaultOf bytes (faults.Refused q s)
    → faults.Refused p r ≡ faults.Refused q s
one_refusal reasons bytes p q r s first second =
    let early : p < q → ⊥ = none_sooner bytes p q r s first second in
    let late : q < p → ⊥ = none_sooner bytes q p s r second first in
    let same : p ≡ q = omega (arith, early, late) in
    let reason : r ≡ s = reasons chain_limit (take q bytes) (get_or bytes q 0) r s
    (subst (λ n. IsRefused Global chain_limit (take n bytes) (get_or bytes n 0) r) same first.1) second.1 in
    λ i. faults.Refused (same i) (reason i)

pub none_of_viable : (bytes : List ℕ) (p : ℕ) (r : Reason) → IsFaultOf bytes (faults.Refused p r) → IsViable Global chain_limit bytes → ⊥
none_of_viable bytes p r first viable =
    none_refused bytes [] p r first.0 viable (subst (λ b. IsFaultOf b (faults.Refused p r)) (sym (append-nil bytes)) first)

-- bytes that end too soon have no refused byte
not_both : (bytes : List ℕ) (p q : ℕ) (r : Reason) → IsFaultOf bytes (faults.Refused p r) → IsFaultOf bytes (faults.Truncated q) → ⊥
not_both bytes p q r first (end, viable, none) = none_of_viable bytes p r first viable

-- ---- the text

module _ (lists : EventsAreOne Global) (line : Lines Global) (first : List ℕ) where
  one_text : (bytes text other : List ℕ) → HasLines line first bytes text → HasLines line first bytes other → text ≡ other
  one_text bytes text other (heard, are, is) (again, those, so) =
      let same : reverse heard ≡ reverse again = lists bytes (reverse heard) (reverse again) are those in
      let alike : heard ≡ again = sym (reverse-reverse heard) ∙ ap reverse same ∙ reverse-reverse again in
      is ∙ ap (λ h. first ++ text_of line h) alike ∙ sym so

  -- ---- the faults

  module _ (reasons : ReasonsAreOne Global) (bytes text other : List ℕ) where
    abbrev answer : Fault → Result ℕ ReportFault
    answer f = Err (reports.Decode f)

    abbrev Same : Fault → Fault → Type 0
    Same f g = (answer f ≡ answer g) × (text ≡ other)

    alike : (f g : Fault) → f ≡ g → HasLines line first (before_fault f bytes) text → HasLines line first (before_fault g bytes) other → Same f g
    alike f g same lines those = (
      ap answer same,
      one_text (before_fault g bytes) text other (subst (λ x. HasLines line first (before_fault x bytes) text) same lines) those,
    )

    pub one_fault : (f g : Fault) → IsFound line first bytes text (Err (reports.Decode f)) → IsFound line first bytes other (Err (reports.Decode g)) → Same f g
    one_fault (faults.NoMemory used) g none found = absurd none
    one_fault (faults.Read p) g (none, lines) found = absurd none
    one_fault f (faults.NoMemory used) found none = absurd none
    one_fault f (faults.Read p) found (none, lines) = absurd none
    one_fault (faults.Refused p r) (faults.Refused q s) (is, lines) (so, those) =
        alike (faults.Refused p r) (faults.Refused q s) (one_refusal reasons bytes p q r s is so) lines those
    one_fault (faults.Refused p r) (faults.Truncated q) (is, lines) (so, those) = absurd (not_both bytes p q r is so)
    one_fault (faults.Truncated p) (faults.Refused q s) (is, lines) (so, those) = absurd (not_both bytes q p s so is)
    one_fault (faults.Truncated p) (faults.Truncated q) (is, lines) (so, those) =
        alike (faults.Truncated p) (faults.Truncated q) (ap faults.Truncated (is.0 ∙ sym so.0)) lines those

-- a chain has no fault
no_fault : (line : Lines Global) (first bytes text : List ℕ) (count : ℕ) (f : Fault) → IsBytes bytes → AreFiles bytes count
    → IsFound line first bytes text (Err (reports.Decode f)) → ⊥
no_fault line first bytes text count (faults.NoMemory used) are files none = none
no_fault line first bytes text count (faults.Refused p r) are (fs, chain, number) (is, lines) = fault_of_chain bytes (faults.Refused p r) are is (fs, chain)
no_fault line first bytes text count (faults.Truncated p) are (fs, chain, number) (is, lines) = fault_of_chain bytes (faults.Truncated p) are is (fs, chain)
no_fault line first bytes text count (faults.Read p) are (fs, chain, number) (is, lines) = is

one_count : ProgressIsOne Global → (bytes : List ℕ) (count again : ℕ) → AreFiles bytes count → AreFiles bytes again → count ≡ again
one_count places bytes count again (fs, chain, number) (gs, other, counted) =
    let same = places fs gs (at_header []) (at_header []) bytes (chain_come bytes (fs, chain)) (chain_come bytes (gs, other)) in
    sym number ∙ ap length same.0 ∙ counted

pub streams_find_one : EventsAreOne Global → ReasonsAreOne Global → ProgressIsOne Global → StreamsFindOne
streams_find_one lists reasons places line first bytes text other (Ok count) (Ok again) are (files, lines) (those, others) had has =
    (ap (λ n. Ok n) (one_count places bytes count again files those), one_text lists line first bytes text other lines others)
streams_find_one lists reasons places line first bytes text other (Ok count) (Err (reports.Decode g)) are (files, lines) found had has =
    absurd (no_fault line first bytes other count g are files found)
streams_find_one lists reasons places line first bytes text other (Err (reports.Decode f)) (Ok again) are found (files, lines) had has =
    absurd (no_fault line first bytes text again f are files found)
streams_find_one lists reasons places line first bytes text other (Err (reports.Decode f)) (Err (reports.Decode g)) are found again had has =
    one_fault lists line first reasons bytes text other f g found again
streams_find_one lists reasons places line first bytes text other (Err reports.NoMemory) again are found those none has = absurd none
streams_find_one lists reasons places line first bytes text other (Err (reports.Write n)) again are found those none has = absurd none
streams_find_one lists reasons places line first bytes text other answer (Err reports.NoMemory) are found those had none = absurd none
streams_find_one lists reasons places line first bytes text other answer (Err (reports.Write n)) are found those had none = absurd none
