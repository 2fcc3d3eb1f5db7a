-- What the reading of all files tells.
use Rattle.fit_decode.proofs.Common.{◌≡◌, true, false, ℕ, ◌+◌, ◌<◌, suc, List, [], ◌∷◌, ◌++◌, length, take, drop, get_or, Some, None, Ok, Err, sym, ap, ◌∙◌}
use Rattle.fit_decode.proofs.Common.{subst, append_assoc, arith, length-append, Vec, if◌then◌else◌, is_ok, is_err, Global, Consumes, IsAtEnd, append-nil}
use Rattle.fit_decode.proofs.Common.{IsBytes, little_bytes, Reason, FitFile, checksum, summed, IsFile, IsChain, IsViable, chain_limit, Fault, Truncated, Read}
use Rattle.fit_decode.proofs.Common.{AreChain, IsAfter, IsEnd, at_header, EndsReading, ReadsChain, GivesChain, IsRefused}
use Rattle.fit_decode.proofs.Common.{FileRead, at_place, one_place, chain_come, Channel, Event, header, item, file_end, IsItem, IsItemOrEnd}
use Rattle.fit_decode.proofs.Common.{IsInNeededPiece, WantsMemory, lacks_for_more}
use Rattle.std.proofs.Common.{Bool, Option, Result}
use Rattle.fit_base.proofs.Bytes.{length-little_bytes}
use Rattle.fit_chain.specs.declared.event.Fault.TheVariants.{Refused, NoMemory}
use Rattle.fit_decode.specs.Answers.{Seen}
use Rattle.fit_decode.proofs.Consumed.{Consumes-append}
use Rattle.fit_decode.proofs.NextRead.{after_file, next_file, next_fault, next_end}

-- no byte of a chain is refused
chain_byte : {A : Type 0} (fs : List (FitFile A)) (b taken y : List ℕ) (place : ℕ) (reason : Reason) → IsBytes b → IsChain chain_limit fs b → b ≡ taken ++ y
    → place < length taken
    → IsRefused A chain_limit (take place taken) (get_or taken place 0) reason → ⊥
chain_byte fs b taken y place reason are chain e within why =
    let front : List ℕ = take place taken in
    let c : ℕ = get_or taken place 0 in
    let rest : List ℕ = drop (suc place) taken in
    let all : b ≡ (front ++ c ∷ []) ++ (rest ++ y) =
    e ∙ ap (λ t. t ++ y) (at_place taken place within) ∙ append_assoc front (c ∷ rest) y ∙ sym (append_assoc front (c ∷ []) (rest ++ y)) in
    why.refused (rest ++ y, fs, subst IsBytes all are, subst (IsChain chain_limit fs) all chain)

all_taken : (b taken y : List ℕ) → b ≡ taken ++ y → y ≡ [] → b ≡ taken
all_taken b taken y e none = e ∙ ap (λ t. taken ++ t) none ∙ append-nil taken

-- the bytes of a chain are read as that chain
given : (fs : List (FitFile Global)) (b : List ℕ) (has : Option (List ℕ)) (failed : Bool) (result : Result (Vec (FitFile Global) Global) Fault) → IsBytes b
    → IsChain chain_limit fs b
    → ReadsChain (record { before = Some b; after = has; failed = failed }) result
    → GivesChain fs (record { before = Some b; after = has; failed = failed }) result
given fs b None failed (Ok files) are chain (taken, eats, end, other, good) = absurd eats
given fs b (Some y) failed (Ok files) are chain (taken, eats, end, other, good) =
    let whole = subst (IsChain chain_limit fs) (all_taken b taken y eats end) chain in
    (one_place files.items fs (at_header []) (at_header []) taken (chain_come taken (files.items, other)) (chain_come taken (fs, whole))).0
given fs b None failed (Err fault) are chain (taken, eats, told) = absurd eats
given fs b (Some y) failed (Err (Refused place reason)) are chain (taken, eats, (within, near, why, good)) =
    chain_byte fs b taken y place reason are chain eats within why
given fs b (Some y) failed (Err (Truncated place)) are chain (taken, eats, (is, end, viable, short, good)) =
    short (fs, subst (IsChain chain_limit fs) (all_taken b taken y eats end) chain)
given fs b (Some y) failed (Err (NoMemory used)) are chain (taken, eats, told) = tt
given fs b (Some y) failed (Err (Read place)) are chain (taken, eats, (is, bad, viable)) = bad

pub gives_chain : (fs : List (FitFile Global)) (b : List ℕ) (had has : Option (List ℕ)) (failed : Bool) (result : Result (Vec (FitFile Global) Global) Fault)
    → had ≡ Some b → IsBytes b
    → IsChain chain_limit fs b → ReadsChain (record { before = had; after = has; failed = failed }) result
    → GivesChain fs (record { before = had; after = has; failed = failed }) result
gives_chain fs b had has failed result input are chain reads =
    given fs b has failed result are chain (subst (λ h. ReadsChain (record { before = h; after = has; failed = failed }) result) input reads)

-- ---- file by file

item_or_end : (x : Event Global) → IsItem x → IsItemOrEnd x
item_or_end (header h n) never = never
item_or_end (item r) kept = tt
item_or_end file_end kept = tt

-- a file has bytes
some_bytes : {A : Type 0} (f : FitFile A) (b : List ℕ) → IsFile f b → 0 < length b
some_bytes f b file = omega (
  arith,
  ap length file.1,
  length-append (summed f) (little_bytes 2 (checksum (summed f))),
  length-little_bytes 2 (checksum (summed f)),
)

pub pushed : {X E : Type 0} (r : Result X E) (refused : Bool) {T : Type 0} (was now : List T) (x : T) → refused ≡ is_err r → refused ≡ false
    → now ≡ (if is_ok r then was ++ x ∷ [] else was) → now ≡ was ++ x ∷ []
pushed (Ok u) refused was now x is good same = same
pushed (Err e) refused was now x is good same = absurd cc

module _ (files : List (FitFile Global)) (before : Seen) (count : ℕ) (old taken : List ℕ) (first had has : Option (List ℕ)) (failed : Bool) (new : Seen)
    (now : ℕ)
    (beyond : IsAfter files before count old) (eats : Consumes first had old) (counted : now + length old ≡ count + length taken)
    (viable : IsViable Global chain_limit new.bytes) where
  eats_all : (result : Result (FitFile Global) Fault) → FileRead files before.bytes old taken had has failed new result → Consumes first has taken
  eats_all result r = subst (Consumes first has) (sym r.noted) (Consumes-append first had has old r.got eats r.eats)

  -- what holds after one file more
  pub one_more : (f : FitFile Global) → FileRead files before.bytes old taken had has failed new (Ok f)
      → IsAfter (files ++ f ∷ []) new now taken × Consumes first has taken
  one_more f r = (after_file files before count old taken had has failed new now beyond counted viable f r, eats_all (Ok f) r)

  pub one_longer : (f : FitFile Global) → FileRead files before.bytes old taken had has failed new (Ok f) → length old < length taken
  one_longer f r =
      let file = next_file files before count old taken had has failed new now beyond counted viable f r in
      omega (arith, some_bytes f r.got file, ap length r.noted, length-append old r.got)

  pub chain_ended : (fault : Fault) → FileRead files before.bytes old taken had has failed new (Err fault) → IsEnd Global new fault true
      → (all : List ℕ) × Consumes first has all × IsAtEnd has × IsChain chain_limit files all × (failed ≡ false)
  chain_ended fault r end =
      let e = next_end files before count old taken had has failed new now beyond counted viable fault r end in
      (taken, eats_all (Err fault) r, e.end, subst (IsChain chain_limit files) (sym e.same) e.whole, e.good)

  -- a chain's reader may take memory for files too
  wants_for_more : WantsMemory Global IsItem chain_limit (IsInNeededPiece Global) (length old) taken
      → WantsMemory Global IsItemOrEnd chain_limit (IsInNeededPiece Global) 0 taken
  wants_for_more (place, after, near, lacks) =
      (place, omega arith, near, lacks_for_more IsItem IsItemOrEnd chain_limit taken place item_or_end lacks)

  ends_for_more : (source : Channel) (fault : Fault)
      → EndsReading Global chain_limit (AreChain Global) (IsInNeededPiece Global)
      (WantsMemory Global IsItem chain_limit (IsInNeededPiece Global) (length old)) taken source fault
      → EndsReading Global chain_limit (AreChain Global) (IsInNeededPiece Global)
      (WantsMemory Global IsItemOrEnd chain_limit (IsInNeededPiece Global) 0) taken source fault
  ends_for_more source (Refused place reason) ends = ends
  ends_for_more source (Truncated place) ends = ends
  ends_for_more source (NoMemory used) (is, wants, good) = (is, wants_for_more wants, good)
  ends_for_more source (Read place) ends = ends

  pub chain_stopped : (fault : Fault) → FileRead files before.bytes old taken had has failed new (Err fault) → IsEnd Global new fault false
      → (all : List ℕ) × Consumes first has all
      × EndsReading Global chain_limit (AreChain Global) (IsInNeededPiece Global)
      (WantsMemory Global IsItemOrEnd chain_limit (IsInNeededPiece Global) 0) all
      (record { before = first; after = has; failed = failed }) fault
  chain_stopped fault r end = (
    taken,
    eats_all (Err fault) r,
    ends_for_more (record { before = first; after = has; failed = failed }) fault
        (next_fault files before count old taken had has failed new now beyond counted viable first fault r end),
  )
