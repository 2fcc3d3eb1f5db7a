-- Bytes in memory are fed to a decoder from their front: what was fed, and the rest.
use Rattle.fit_decode.proofs.Common.{◌≡◌, ℕ, ◌+◌, ◌-◌, ◌^◌, ◌<◌, min, List, [], ◌∷◌, ◌++◌, length, take, drop, None, Ok, Err, refl, sym, ap, ◌∙◌, subst}
use Rattle.fit_decode.proofs.Common.{◌≤◌, ◌==◌, false, Some, length-drop, append_assoc, length-append, arith, IsErr, IsOk, ◌↔◌, Global, append-nil}
use Rattle.fit_decode.proofs.Common.{length-take-le, take-append-drop}
use Rattle.fit_decode.proofs.Common.{take-append_seam, Reason, FitFile, IsViable, chain_limit, Fault, Truncated, Read, Progress, at_header, HasCome, AreChain}
use Rattle.fit_decode.proofs.Common.{AreFiles, IsFaultOf, LacksMemoryAt, fault_after, Refuses, Wants, fed, chain_come, refused_in, wants_in}
use Rattle.std.proofs.Common.{Option, Result}
use Rattle.std.specs.Prelude.{IfErr, OnOk}
use Rattle.fit_chain.specs.declared.event.Fault.TheVariants.{Refused, NoMemory}
use Rattle.fit_decode.specs.Answers.{Seen}
use Rattle.fit_decode.proofs.FileRead.{nothing_viable}

-- ---- feeding

-- the bytes fed and the rest are the upload
pub record Feeds (upload : List ℕ) (seen : Seen) (rest : List ℕ) : Type 0 where
  pub joined : seen.bytes ++ rest ≡ upload
  pub fresh : seen.refusal ≡ None
  pub viable : IsViable Global chain_limit seen.bytes

pub feeds_on : (upload : List ℕ) (old new : Seen) (rest : List ℕ) (used : ℕ) → Feeds upload old rest → new ≡ fed old rest used
    → IsViable Global chain_limit new.bytes → Feeds upload new (drop used rest)
feeds_on upload old new rest used f after viable = record {
  joined =
      ap (λ (v : Seen). v.bytes ++ drop used rest) after
      ∙ append_assoc old.bytes (take used rest) (drop used rest)
      ∙ ap (λ (x : List ℕ). old.bytes ++ x) (take-append-drop used rest) ∙ f.joined;
  fresh = ap (λ (v : Seen). v.refusal) after;
  viable = viable;
}

pub feeds_first : (upload : List ℕ) (new : Seen) → new ≡ record { bytes = []; refusal = None } → Feeds upload new upload
feeds_first upload new none =
    subst (λ s. Feeds upload s upload) (sym none) (record { joined = refl; fresh = refl; viable = nothing_viable Global })

-- what was passed over counts as fed
pub feeds_over : (upload : List ℕ) (old new : Seen) (rest : List ℕ) (used : ℕ) → Feeds upload old rest
    → new ≡ record old { bytes = old.bytes ++ take used rest }
    → IsViable Global chain_limit new.bytes → Feeds upload new (drop used rest)
feeds_over upload old new rest used f after viable =
    feeds_on upload old new rest used f (after ∙ ap (λ r. record { bytes = old.bytes ++ take used rest; refusal = r }) f.fresh) viable

-- the same, where what is left has a name
pub passed_over : (upload : List ℕ) (old new : Seen) (rest left : List ℕ) (used : ℕ) → Feeds upload old rest
    → new ≡ record old { bytes = old.bytes ++ take used rest } → IsViable Global chain_limit new.bytes → left ≡ drop used rest → Feeds upload new left
passed_over upload old new rest left used f after viable is = subst (Feeds upload new) (sym is) (feeds_over upload old new rest used f after viable)

-- then the piece that is left is fed
pub fed_after : (upload : List ℕ) (mid new : Seen) (left after : List ℕ) (used : ℕ) → Feeds upload mid left
    → (used ≤ length left) × (new ≡ fed mid left used) → IsViable Global chain_limit new.bytes → after ≡ drop used left → Feeds upload new after
fed_after upload mid new left after used passed takes viable is =
    subst (Feeds upload new) (sym is) (feeds_on upload mid new left used passed takes.1 viable)

some_left : (rest : List ℕ) → (length rest == 0) ≡ false → 0 < length rest
some_left [] some = absurd (cc some)
some_left (b ∷ rest) some = omega arith

-- an event is told by some bytes, and without one all are used
pub less_left : {X Q : Type 0} {R : X → Type 0} (rest left after : List ℕ) (passed used : ℕ) (event : Option X) → (length rest == 0) ≡ false
    → left ≡ drop passed rest → after ≡ drop used left → (event ≡ None → (used ≡ length left) × Q) → ((x : X) → event ≡ Some x → (0 < used) × R x)
    → length after < length rest
less_left rest left after passed used None some is then more told =
    omega (arith, some_left rest some, ap length then, length-drop used left, (more refl).0)
less_left rest left after passed used (Some x) some is then more told =
    omega (arith, some_left rest some, ap length is, length-drop passed rest, ap length then, length-drop used left, (told x refl).0)

-- ---- faults

-- what a decoder says that isn't fed on
pub record Stops (old : Seen) (rest : List ℕ) (new : Seen) (fault : Fault) : Type 0 where
  pub refused : (place : ℕ) (reason : Reason) → fault ≡ Refused place reason → Refuses Global old rest new place reason
  pub memory : (used : ℕ) → fault ≡ NoMemory used → Wants Global old rest new used
  pub others : (place : ℕ) → (fault ≡ Truncated place → ⊥) × (fault ≡ Read place → ⊥)
  pub viable : IsViable Global chain_limit new.bytes

-- so says `feed` where it returns this fault
pub stops : {X : Type 0} (old new : Seen) (rest : List ℕ) (result : Result X Fault) (fault : Fault) → result ≡ Err fault → old.refusal ≡ None
    → ((place : ℕ) (reason : Reason) → old.refusal ≡ None → result ≡ Err (Refused place reason) → Refuses Global old rest new place reason)
    → ((used : ℕ) → result ≡ Err (NoMemory used) → Wants Global old rest new used)
    → ((place : ℕ) → (result ≡ Err (Truncated place) → ⊥) × (result ≡ Err (Read place) → ⊥)) → IsViable Global chain_limit new.bytes
    → Stops old rest new fault
stops old new rest result fault is fresh refused memory others viable = record {
  refused = λ place reason same. refused place reason fresh (is ∙ ap Err same);
  memory = λ used same. memory used (is ∙ ap Err same);
  others = λ place. (λ same. (others place).0 (is ∙ ap Err same), λ same. (others place).1 (is ∙ ap Err same));
  viable = viable;
}

-- that many bytes of the upload were taken, and they begin a chain
pub taken_begins : (upload : List ℕ) (seen : Seen) (rest : List ℕ) (count : ℕ) → Feeds upload seen rest → count ≡ length seen.bytes
    → IsFaultOf upload (NoMemory count)
taken_begins upload seen rest count f is = (
  omega (arith, ap length f.joined, length-append seen.bytes rest, is),
  subst (IsViable Global chain_limit)
      (sym (ap (λ n. take n upload) is ∙ ap (take (length seen.bytes)) (sym f.joined) ∙ take-append_seam seen.bytes rest)) f.viable,
)

-- all bytes before the rest were taken
pub taken_before : (upload : List ℕ) (seen : Seen) (rest : List ℕ) → Feeds upload seen rest → IsFaultOf upload (NoMemory (length upload - length rest))
taken_before upload seen rest f =
    taken_begins upload seen rest (length upload - length rest) f (omega (arith, ap length f.joined, length-append seen.bytes rest))

-- the bytes before the rest are counted too
pub stopped : (upload : List ℕ) (old new : Seen) (rest : List ℕ) (fault : Fault) → length upload < 2 ^ 64 → Feeds upload old rest → Stops old rest new fault
    → IsFaultOf upload (fault_after (length upload - length rest) fault)
stopped upload old new rest (Refused place reason) short f s =
    let r = s.refused place reason refl in
    subst (λ bytes. IsFaultOf bytes (Refused place reason)) f.joined (refused_in old.bytes rest r.used place reason r.is_place r.within r.why)
stopped upload old new rest (Truncated place) short f s = absurd ((s.others place).0 refl)
stopped upload old new rest (NoMemory used) short f s =
    let w = s.memory used refl in
    let whole : length old.bytes + length rest ≡ length upload = sym (length-append old.bytes rest) ∙ ap length f.joined in
    taken_begins upload new (drop used rest) (min (used + (length upload - length rest)) (2 ^ 64 - 1))
    (feeds_on upload old new rest used f w.after s.viable)
    (omega (
      arith,
      short,
      whole,
      ap (λ (v : Seen). length v.bytes) w.after,
      length-append old.bytes (take used rest),
      length-take-le used rest (omega (arith, w.within)),
      w.within,
    ))
stopped upload old new rest (Read place) short f s = absurd ((s.others place).1 refl)

pub stopped_at : (upload : List ℕ) (old new : Seen) (rest : List ℕ) (fault : Fault) → length upload < 2 ^ 64 → Feeds upload old rest → Stops old rest new fault
    → LacksMemoryAt upload (fault_after (length upload - length rest) fault)
stopped_at upload old new rest (NoMemory used) short f s =
    let w = s.memory used refl in
    let whole : length old.bytes + length rest ≡ length upload = sym (length-append old.bytes rest) ∙ ap length f.joined in
    let place = min (used + (length upload - length rest)) (2 ^ 64 - 1) in
    subst (λ bytes. LacksMemoryAt bytes (NoMemory place)) f.joined
    (wants_in old.bytes rest used place (omega (arith, short, whole, w.within)) w.within w.next w.takes)
stopped_at upload old new rest fault short f s = tt

-- ---- the end

at_end : (upload : List ℕ) (seen : Seen) (rest : List ℕ) → Feeds upload seen rest → length rest ≡ 0 → seen.bytes ≡ upload
at_end upload seen [] f none = sym (append-nil seen.bytes) ∙ f.joined
at_end upload seen (b ∷ rest) f none = absurd (omega arith)

-- what `finish` says of what was fed
pub record Finishes (seen : Seen) (result : Result (Unit {0}) Fault) : Type 0 where
  pub good : IsOk result ↔ ((seen.refusal ≡ None) × AreChain Global seen.bytes)
  pub truncated : seen.refusal ≡ None → IsErr result → result ≡ Err (Truncated (length seen.bytes))

pub good_end : (upload : List ℕ) (seen : Seen) (rest : List ℕ) (result : Result (Unit {0}) Fault) → Feeds upload seen rest → length rest ≡ 0
    → Finishes seen result
    → OnOk result (AreChain Global upload)
good_end upload seen rest (Ok u) f none e = subst (AreChain Global) (at_end upload seen rest f none) ((e.good.0 refl).1)
good_end upload seen rest (Err fault) f none e = tt

pub bad_end : (upload : List ℕ) (seen : Seen) (rest : List ℕ) (result : Result (Unit {0}) Fault) → Feeds upload seen rest → length rest ≡ 0
    → Finishes seen result
    → IfErr result (IsFaultOf upload)
bad_end upload seen rest (Ok u) f none e = tt
bad_end upload seen rest (Err fault) f none e =
    let all = at_end upload seen rest f none in
    let same : fault ≡ Truncated (length seen.bytes) = let t = e.truncated f.fresh refl in cc in
    let whole : IsFaultOf seen.bytes (Truncated (length seen.bytes)) = (refl, f.viable, λ done. let ok = e.good.1 (f.fresh, done) in absurd cc) in
    rw same (subst (λ bytes. IsFaultOf bytes (Truncated (length seen.bytes))) all whole)

-- it isn't memory that the end lacks
pub bad_place : (upload : List ℕ) (seen : Seen) (result : Result (Unit {0}) Fault) → seen.refusal ≡ None → Finishes seen result
    → IfErr result (LacksMemoryAt upload)
bad_place upload seen (Ok u) fresh e = tt
bad_place upload seen (Err fault) fresh e =
    let same : fault ≡ Truncated (length seen.bytes) = let t = e.truncated fresh refl in cc in rw same tt

-- the files that have ended are all files of the chain
pub counted_end : (upload : List ℕ) (seen : Seen) (rest : List ℕ) (count : ℕ) → Feeds upload seen rest → length rest ≡ 0 → AreChain Global upload
    → (seen.refusal ≡ None → (fs : List (FitFile Global)) (g : Progress Global) → HasCome fs g seen.bytes → count ≡ length fs) → AreFiles upload count
counted_end upload seen rest count f none (files, chain) counts =
    let come = subst (HasCome files (at_header [])) (sym (at_end upload seen rest f none)) (chain_come upload (files, chain)) in
    (files, chain, sym (counts f.fresh files (at_header []) come))
