-- Where the telling of a piece has stopped.
use Rattle.fit_report.proofs.Common.{◌≡◌, ℕ, ◌+◌, ◌≤◌, List, ◌++◌, length, take, drop, get_or, reverse, Option, Some, Err, refl, sym, ap, ◌∙◌, subst, arith}
use Rattle.fit_report.proofs.Common.{[], length-append, append_assoc, take-append-drop}
use Rattle.std.proofs.lemmas.List.{drop-drop}
use Rattle.fit_report.proofs.Common.{append-nil, length-drop, length-take, get_or-drop, Fault, Seen, fed, Refuses, Event, AreEvents, IsRefused, chain_limit}
use Rattle.fit_report.proofs.Common.{IsViable}
use Rattle.fit_report.proofs.Common.{ReportFault, Decode, NoMemory, Write, Lines, Channel, HasHeard, report_fault, Stands, Stops, Puts, fed_on, quiet_for}
use Rattle.fit_report.specs.Telling.{KeepsRefusal}
use Rattle.fit_frame.specs.declared.reason.Reason.{Reason}
use Rattle.fit_chain.specs.declared.event.Fault.TheVariants as faults
use Rattle.fit_chain.specs.Memory.{IsAny, MayLackMemoryIn}
use Rattle.fit_chain.proofs.Lacking.{lacks_for_byte, lacks_in_rest}
use Rattle.fit_decode.specs.Answers.{Wants}

-- It has heard no more where a piece stopped.
pub hears_no_more : {A R : Type 0} (has_heard : R → List (Event A) → Type 0) (reporter : R) (heard : List (Event A)) (fault : Fault)
    → has_heard reporter heard → HasHeard has_heard reporter heard (Err (report_fault fault))
hears_no_more has_heard reporter heard (faults.Refused place reason) has = has
hears_no_more has_heard reporter heard (faults.Truncated place) has = has
hears_no_more has_heard reporter heard (faults.NoMemory used) has = tt
hears_no_more has_heard reporter heard (faults.Read place) has = has

-- A decoder stopped in a piece.
pub record Stopped (A : Type 0) (old : Seen) (piece : List ℕ) (new : Seen) (fault : Fault) : Type 0 where
  pub refused : (place : ℕ) (reason : Reason) → fault ≡ faults.Refused place reason → Refuses A old piece new place reason
  pub memory : (used : ℕ) → fault ≡ faults.NoMemory used → Wants A old piece new used
  pub others : (place : ℕ) → (fault ≡ faults.Truncated place → ⊥) × (fault ≡ faults.Read place → ⊥)

-- Nothing of the piece was told.
module _ {A R : Type 0} {has_heard : R → List (Event A) → Type 0} {line : Lines A} {reporter : R} {told : List ℕ} {start : Option (List ℕ)} {written : ℕ}
    (old : Seen) (piece : List ℕ) (sink : Channel) (s : Stands has_heard line reporter old.bytes told start sink.after written) where
  pub stops_before : (after : R) → MayLackMemoryIn A IsAny old.bytes piece
      → Stops has_heard line old.bytes told piece after (record sink { before = start }) NoMemory
  stops_before after lacks =
      let none : old.bytes ≡ old.bytes ++ [] = sym (append-nil old.bytes) in (
        0,
        s.heard,
        (subst (λ b. AreEvents b (reverse s.heard)) none s.are, s.text, s.is_text, s.put),
        subst (λ b. MayLackMemoryIn A IsAny b piece) none lacks,
      )

  pub stops : (new : Seen) (fault : Fault) → Stopped A old piece new fault
      → Stops has_heard line old.bytes told piece reporter (record sink { before = start }) (report_fault fault)
  stops new (faults.Refused place reason) t =
      let refuses = t.refused place reason refl in
      let u : ℕ = refuses.used in (
        u,
        refuses.within,
        refuses.is_place,
        refuses.why,
        s.heard,
        s.has,
        (quiet_for old.bytes piece u refuses.quiet (reverse s.heard) s.are u (omega arith), s.text, s.is_text, s.put),
      )
  stops new (faults.NoMemory used) t =
      let wants = t.memory used refl in
      stops_before reporter (lacks_for_byte IsAny old.bytes piece used wants.within wants.next wants.takes)
  stops new (faults.Truncated place) t = absurd ((t.others place).0 refl)
  stops new (faults.Read place) t = absurd ((t.others place).1 refl)

-- What a decoder keeps is what a telling keeps.
pub keeps : (A : Type 0) (old : Seen) (piece : List ℕ) (new : Seen) (fault : Fault) → Stopped A old piece new fault
    → KeepsRefusal old.bytes piece new (report_fault fault)
keeps A old piece new (faults.Refused place reason) t = let r = t.refused place reason refl in (r.used, r.is_place, r.after)
keeps A old piece new (faults.NoMemory used) t = tt
keeps A old piece new (faults.Truncated place) t = tt
keeps A old piece new (faults.Read place) t = tt

-- The putting of a text refuses no byte.
pub keeps_none : (bytes piece : List ℕ) (seen : Seen) (text : List ℕ) (sink : Channel) (old new : ℕ) (fault : ReportFault) → Puts text sink old new (Err fault)
    → KeepsRefusal bytes piece seen fault
keeps_none bytes piece seen text sink old new (Decode fault) none = absurd none
keeps_none bytes piece seen text sink old new NoMemory none = absurd none
keeps_none bytes piece seen text sink old new (Write count) puts = tt

-- ---- what is left of a piece

pub within_after : (piece rest : List ℕ) (at used : ℕ) → at ≤ length piece → rest ≡ drop at piece → used ≤ length rest → at + used ≤ length piece
within_after piece rest at used within left more = omega (arith, within, ap length left, length-drop at piece, more)

pub fed_after : (old mid new : Seen) (piece rest : List ℕ) (at used : ℕ) → mid ≡ fed old piece at → rest ≡ drop at piece → new ≡ fed mid rest used
    → new ≡ fed old piece (at + used)
fed_after old mid new piece rest at used is left after = fed_on old mid new piece at used is (after ∙ ap (λ (x : List ℕ). fed mid x used) left)

-- Memory was refused in it, and so in the piece.
pub lacks_after : {A : Type 0} (old mid : Seen) (piece rest : List ℕ) (at : ℕ) → mid.bytes ≡ old.bytes ++ take at piece → rest ≡ drop at piece
    → MayLackMemoryIn A IsAny mid.bytes rest → MayLackMemoryIn A IsAny old.bytes piece
lacks_after old mid piece rest at is left =
    lacks_in_rest IsAny old.bytes piece mid.bytes rest
    ((λ i. is i ++ left i) ∙ append_assoc old.bytes (take at piece) (drop at piece) ∙ ap (λ b. old.bytes ++ b) (take-append-drop at piece))
    (omega (arith, ap length is, length-append old.bytes (take at piece)))

-- A fault in it is one in the piece.
module _ {A R : Type 0} (has_heard : R → List (Event A) → Type 0) (line : Lines A) (old mid : Seen) (told piece rest : List ℕ) (at : ℕ) (reporter : R)
    (sink : Channel) (within : at ≤ length piece) (is : mid ≡ fed old piece at) (left : rest ≡ drop at piece) where
  joined : (k : ℕ) → mid.bytes ++ take k rest ≡ old.bytes ++ take (at + k) piece
  joined k = ap (λ (v : Seen). v.bytes) (fed_after old mid (fed mid rest k) piece rest at k is left refl)

  so : (k : ℕ) (heard : List (Event A)) → AreEvents (mid.bytes ++ take k rest) (reverse heard) → AreEvents (old.bytes ++ take (at + k) piece) (reverse heard)
  so k heard = subst (λ b. AreEvents b (reverse heard)) (joined k)

  lacks_on : (k : ℕ) → MayLackMemoryIn A IsAny (mid.bytes ++ take k rest) (drop k rest)
      → MayLackMemoryIn A IsAny (old.bytes ++ take (at + k) piece) (drop (at + k) piece)
  lacks_on k lacks =
      subst (λ b. MayLackMemoryIn A IsAny b (drop (at + k) piece)) (joined k)
      (subst (λ l. MayLackMemoryIn A IsAny (mid.bytes ++ take k rest) l) (ap (drop k) left ∙ drop-drop k at piece) lacks)

  pub stops_after : (fault : ReportFault) → Stops has_heard line mid.bytes told rest reporter sink fault
      → Stops has_heard line old.bytes told piece reporter sink fault
  stops_after (Decode (faults.Refused place reason)) (k, short, stands, why, heard, has, (are, text, is_text, put)) = (
    at + k,
    omega (arith, short, ap length left, length-drop at piece),
    omega (arith, stands, ap (λ (v : Seen). length v.bytes) is, length-append old.bytes (take at piece), length-take at piece, within),
    subst (λ b. IsRefused A chain_limit b (get_or piece (at + k) 0) reason) (joined k)
        (subst (λ x. IsRefused A chain_limit (mid.bytes ++ take k rest) x reason) (ap (λ x. get_or x k 0) left ∙ get_or-drop at piece k 0) why),
    heard,
    has,
    (so k heard are, text, is_text, put),
  )
  stops_after (Decode fault) none = absurd none
  stops_after NoMemory (k, heard, (are, text, is_text, put), lacks) = (at + k, heard, (so k heard are, text, is_text, put), lacks_on k lacks)
  stops_after (Write count) (k, heard, viable, are, text, is_text, bad, n, short, put, counted) = (
    at + k,
    heard,
    subst (IsViable A chain_limit) (joined k) viable,
    so k heard are,
    text,
    is_text,
    bad,
    n,
    short,
    put,
    counted,
  )

  pub keeps_after : (new : Seen) (fault : ReportFault) → KeepsRefusal mid.bytes rest new fault → KeepsRefusal old.bytes piece new fault
  keeps_after new (Decode (faults.Refused place reason)) (k, stands, seen) = (
    at + k,
    omega (arith, stands, ap (λ (v : Seen). length v.bytes) is, length-append old.bytes (take at piece), length-take at piece, within),
    seen ∙ ap (λ (b : List ℕ). record { bytes = b; refusal = Some reason }) (joined k),
  )
  keeps_after new (Decode (faults.Truncated place)) kept = tt
  keeps_after new (Decode (faults.NoMemory used)) kept = tt
  keeps_after new (Decode (faults.Read place)) kept = tt
  keeps_after new NoMemory kept = tt
  keeps_after new (Write count) kept = tt
