-- What the report of a document did.
use Rattle.fit_report.proofs.Common.{◌≡◌, ℕ, ◌+◌, ◌-◌, List, [], ◌++◌, length, take, Option, Result, Ok, Err, inl, inr, refl, sym, ap, ◌∙◌, subst, arith}
use Rattle.fit_report.proofs.Common.{length-append, take-append-add, Appends, OnOk, Global, Event, ReportFault, Decode, NoMemory, Write, Lines, text_of}
use Rattle.fit_report.proofs.Common.{Channel, Reports, HasHeard, Puts, ToldSoFar}
use Rattle.std.specs.Prelude.{◌^◌, min}
use Rattle.fit_encode.proofs.Written.{Appends-on}
use Rattle.fit_report.specs.Documents.{AreAllHeard, Ending, PutsDocument, ReportsDocument}
use Rattle.fit_report.specs.inner.Passing.{HasComeToEnd, PutsEnding}

-- a fault before the ending is that of a report
pub stops_before_end : {A R : Type 0} (has_heard : R → List (Event A) → Type 0) (reporter : R) (line : Lines A) (ending : Ending A) (source sink : Channel)
    (fault : ReportFault) → Reports has_heard reporter line source sink (Err fault) → ReportsDocument has_heard reporter line ending source sink (Err fault)
stops_before_end has_heard reporter line ending source sink fault (taken, heard, eats, told, has) = (taken, heard, eats, inr (refl, told), has)

-- ---- the ending

ending_put : (text : List ℕ) (sink : Channel) (old new : ℕ) (result : Result (Unit {0}) ReportFault) → Puts text sink old new result
    → PutsEnding text sink old result
ending_put text sink old new (Ok x) puts = puts.0
ending_put text sink old new (Err (Decode fault)) none = none
ending_put text sink old new (Err NoMemory) none = absurd none
ending_put text sink old new (Err (Write count)) puts = puts

-- The text of the ending is what stands after no text.
pub puts_ending : (first text put ending : List ℕ) (sink : Channel) (old new : ℕ) (result : Result (Unit {0}) ReportFault) → first ≡ [] → text ≡ first ++ ending
    → put ≡ text → Puts put sink old new result → PutsEnding ending sink old result
puts_ending first text put ending sink old new result none told is puts =
    subst (λ t. PutsEnding t sink old result) (is ∙ told ∙ ap (λ t. t ++ ending) none) (ending_put put sink old new result puts)

puts_document : {A : Type 0} (line : Lines A) (ending : Ending A) (heard : List (Event A)) (start : Option (List ℕ)) (sink : Channel) (old : ℕ)
    (result : Result (Unit {0}) ReportFault) → Appends start sink.before (text_of line heard) → old ≡ min (length (text_of line heard)) (2 ^ 64 - 1)
    → PutsEnding (ending heard) sink old result → PutsDocument line ending heard (record sink { before = start }) result
puts_document line ending heard start sink old (Ok x) told counted put =
    Appends-on start sink.before sink.after (text_of line heard) (ending heard) told put
puts_document line ending heard start sink old (Err (Decode fault)) told counted none = none
puts_document line ending heard start sink old (Err NoMemory) told counted same =
    subst (λ after. Appends start after (text_of line heard)) (sym same) told
puts_document line ending heard start sink old (Err (Write count)) told counted (bad, n, short, put, is) =
    let text = text_of line heard in (
      bad,
      length text + n,
      omega arith,
      omega (arith, short, length-append text (ending heard)),
      subst (Appends start sink.after) (sym (take-append-add text (ending heard) n))
          (Appends-on start sink.before sink.after text (take n (ending heard)) told put),
      omega (arith, counted, is),
    )

hears_all : {R : Type 0} (has_heard : R → List (Event Global) → Type 0) (reporter : R) (heard : List (Event Global)) (text : List ℕ) (sink : Channel) (old : ℕ)
    (result : Result (Unit {0}) ReportFault) → OnOk result (has_heard reporter heard) → PutsEnding text sink old result
    → HasHeard has_heard reporter heard result
hears_all has_heard reporter heard text sink old (Ok x) has puts = has
hears_all has_heard reporter heard text sink old (Err (Decode fault)) has none = absurd none
hears_all has_heard reporter heard text sink old (Err NoMemory) has puts = tt
hears_all has_heard reporter heard text sink old (Err (Write count)) has puts = tt

module _ {R : Type 0} (has_heard : R → List (Event Global) → Type 0) (line : Lines Global) (before : R) (telling : ToldSoFar) (source : Channel)
    (start now : Option (List ℕ)) (come : HasComeToEnd has_heard line before telling source start now) where
  pub all_heard : AreAllHeard come.0.stands.heard
  all_heard = (telling.seen.bytes, come.0.viable, come.1, come.0.stands.are)

  pub has_all : (heard : List (Event Global)) × has_heard before heard × AreAllHeard heard
  has_all = (come.0.stands.heard, come.0.stands.has, all_heard)

  -- After all events were told, the ending was put.
  pub ends : (ending : Ending Global) (after : R) (sink : Channel) (written : ℕ) (result : Result (Unit {0}) ReportFault) → sink.before ≡ now
      → written ≡ telling.written
      → OnOk result ((heard : List (Event Global)) → has_heard before heard → AreAllHeard heard → has_heard after heard)
      → ((heard : List (Event Global)) → has_heard before heard → AreAllHeard heard → PutsEnding (ending heard) sink written result)
      → ReportsDocument has_heard after line ending source (record sink { before = start }) result
  ends ending after sink written result from counted hears puts =
      let s = come.0.stands in
      let put = puts s.heard s.has all_heard in
      let told : Appends start sink.before (text_of line s.heard) =
      subst (λ b. Appends start b (text_of line s.heard)) (sym from) (subst (Appends start now) (sym s.is_text) s.put) in (
        telling.seen.bytes,
        s.heard,
        come.0.eaten,
        inl (
          (come.2, come.3, come.1, s.are),
          puts_document line ending s.heard start sink written result told (counted ∙ s.counted) put,
        ),
        hears_all has_heard after s.heard (ending s.heard) sink written result (still result hears) put,
      )
    where
      still : (result : Result (Unit {0}) ReportFault)
          → OnOk result ((heard : List (Event Global)) → has_heard before heard → AreAllHeard heard → has_heard after heard)
          → OnOk result (has_heard after come.0.stands.heard)
      still (Ok x) hears = hears come.0.stands.heard come.0.stands.has all_heard
      still (Err fault) hears = tt
