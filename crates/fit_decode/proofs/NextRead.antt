-- What the reading of the next file of a chain tells.
use Rattle.fit_decode.proofs.Common.{◌≡◌, true, false, ℕ, ◌+◌, List, [], ◌∷◌, ◌++◌, length, Some, None, Ok, Err, refl, sym, ap, ◌∙◌, subst, arith, Consumes}
use Rattle.fit_decode.proofs.Common.{Keeps, IsAtEnd, append-nil, append_cancel_left, IsBytes, FitFile, IsFile, IsChain, IsViable, chain_bytes, chain_limit}
use Rattle.fit_decode.proofs.Common.{Fault, Truncated, Read, AreChain, IsAfter, IsEnd, at_header, HasCome, EndsReading, EndsChain, GivesFile, GivesNext, Past}
use Rattle.fit_decode.proofs.Common.{Channel, ComesTo, Ended, FaultIn, FileTold, FileRead, unrefused, next_bytes, viable_goes, ended_chain, one_place}
use Rattle.fit_decode.proofs.Common.{chain_come, length-append, ◌-◌, LastPiece, progress_bytes, IsItem, IsItemOrEnd, IsInNeededPiece, WantsMemory}
use Rattle.fit_decode.proofs.Common.{take, MayLackMemory, Needs, lacks_at_end, needs_at_end}
use Rattle.std.proofs.Common.{Bool, Option, Result}
use Rattle.fit_chain.specs.declared.event.Fault.TheVariants.{Refused, NoMemory}
use Rattle.fit_decode.specs.Answers.{Seen}
use Rattle.fit_decode.proofs.FileGiven.{given}
use Rattle.fit_decode.proofs.FileRead.{no_file_yet, nothing_viable}
use Rattle.fit_decode.proofs.Nearly.{needed, wants_in_piece, wants_later}

module _ {A : Type 0} (files : List (FitFile A)) (before : Seen) (count : ℕ) (old taken : List ℕ) (had has : Option (List ℕ)) (failed : Bool) (new : Seen)
    (now : ℕ)
    (beyond : IsAfter files before count old) (counted : now + length old ≡ count + length taken) (viable : IsViable A chain_limit new.bytes) where
  module _ (result : Result (FitFile A) Fault) (r : FileRead files before.bytes old taken had has failed new result) where
    -- the bytes fed before are those taken before
    joined : before.bytes ++ r.got ≡ taken
    joined = ap (λ (v : Seen). v.bytes ++ r.got) beyond.fed ∙ sym r.noted

    counts : now ≡ length taken
    counts = omega (arith, counted, beyond.counted)

    told : FileTold files taken has failed new result
    told = subst (λ t. FileTold files t has failed new result) joined r.told

  -- ---- the next file

  pub next_file : (f : FitFile A) (r : FileRead files before.bytes old taken had has failed new (Ok f)) → IsFile f r.got
  next_file f r = next_bytes files old beyond.come f r.got (subst (Ended files f) r.noted (told (Ok f) r).1)

  pub after_file : (f : FitFile A) → FileRead files before.bytes old taken had has failed new (Ok f) → IsAfter (files ++ f ∷ []) new now taken
  after_file f r =
      let is = told (Ok f) r in
      record {
        fed = is.0;
        counted = counts (Ok f) r;
        viable = subst (λ (v : Seen). IsViable A chain_limit v.bytes) is.0 viable;
        come = is.1;
      }

  pub next_chain : (f : FitFile A) → FileRead files before.bytes old taken had has failed new (Ok f) → EndsChain f taken
  next_chain f r =
      let beyond = after_file f r in
      let chain = ended_chain files f taken beyond.come in
      let goes = viable_goes chain_limit (files ++ f ∷ []) (at_header []) taken beyond.come beyond.viable in
      (files, (record { some = chain.0.some; within = goes.1; each = chain.0.each }, chain.1))

  -- memory was refused for the file
  pub file_not_kept : (f : FitFile A) → FileRead files before.bytes old taken had has failed new (Ok f)
      → WantsMemory A IsItemOrEnd chain_limit (IsInNeededPiece A) 0 taken
  file_not_kept f r =
      let more = after_file f r in
      let ended = subst (HasCome (files ++ f ∷ []) (at_header [])) r.noted more.come in
      let at_end : MayLackMemory A IsItemOrEnd chain_limit taken (length taken - 1) =
      subst (λ t. MayLackMemory A IsItemOrEnd chain_limit t (length t - 1)) (sym r.noted)
      (lacks_at_end files old r.got beyond.come f (next_file f r) ended (subst (IsViable A chain_limit) r.noted more.viable)) in
      let one : Needs A (take (length taken - 1) taken) 1 =
      subst (λ t. Needs A (take (length t - 1) t) 1) (sym r.noted) (needs_at_end files old r.got beyond.come f (next_file f r) ended) in
      (length taken - 1, omega arith, (length taken - 1, omega arith, 1, one, omega arith), at_end)

  pub next_good : (f : FitFile A) → FileRead files before.bytes old taken had has failed new (Ok f) → failed ≡ false
  next_good f r = (told (Ok f) r).2

  -- ---- a fault

  -- memory was refused at no byte taken before
  file_wants : LastPiece files taken → WantsMemory A IsItem chain_limit (IsInNeededPiece A) (length old) taken
  file_wants last =
      let ended : old ≡ chain_bytes files = beyond.come.spelled ∙ append-nil (chain_bytes files) in
      let before : last.before ≡ chain_bytes files ++ progress_bytes last.come.0 = last.come.1.spelled in
      wants_later IsItem chain_limit (IsInNeededPiece A) (length last.before) (length old) taken
      (omega (arith, ap length ended, ap length before, length-append (chain_bytes files) (progress_bytes last.come.0)))
      (wants_in_piece IsItem (IsInNeededPiece A) last.before last.piece taken last.parts
      (needed last.before last.piece taken last.n last.parts last.needs last.short) last.lacks)

  fault_told : (first : Option (List ℕ)) (fault : Fault) → FaultIn files taken has failed new fault → IsEnd A new fault false
      → EndsReading A chain_limit (AreChain A) (IsInNeededPiece A) (WantsMemory A IsItem chain_limit (IsInNeededPiece A) (length old)) taken
      (record { before = first; after = has; failed = failed }) fault
  fault_told first (Refused place reason) (within, near, comes, why, good) open_ = (within, near, why, good)
  fault_told first (Truncated place) (is, end, comes, after, good) open_ = (
    is,
    end,
    subst (λ (v : Seen). IsViable A chain_limit v.bytes) after viable,
    λ whole. let no : false ≡ true = open_.1 (ap (λ (v : Seen). v.refusal) after, subst (AreChain A) (sym (ap (λ (v : Seen). v.bytes) after)) whole) in cc,
    good,
  )
  fault_told first (NoMemory used) (is, last, good) open_ = (is, file_wants last, good)
  fault_told first (Read place) (is, bad, comes, after) open_ = (is, bad, subst (λ (v : Seen). IsViable A chain_limit v.bytes) after viable)

  -- of a source that had these bytes at first
  pub next_fault : (first : Option (List ℕ)) (fault : Fault) → FileRead files before.bytes old taken had has failed new (Err fault) → IsEnd A new fault false
      → EndsReading A chain_limit (AreChain A) (IsInNeededPiece A) (WantsMemory A IsItem chain_limit (IsInNeededPiece A) (length old)) taken
      (record { before = first; after = has; failed = failed }) fault
  next_fault first fault r open_ = fault_told first fault (told (Err fault) r) open_

  -- ---- the end of the input, after a whole chain

  nothing_taken : (got : List ℕ) → ComesTo files (old ++ got) → AreChain A (old ++ got) → got ≡ []
  nothing_taken got comes whole =
      let one = one_place files whole.0 comes.0 (at_header []) (old ++ got) comes.1 (chain_come (old ++ got) whole) in
      let first : old ≡ chain_bytes files = beyond.come.spelled ∙ append-nil (chain_bytes files) in
      let all : old ++ got ≡ chain_bytes files = whole.1.1 ∙ ap chain_bytes (sym one.0) in
      append_cancel_left old got [] (all ∙ sym first ∙ sym (append-nil old))

  -- nothing more was taken, and the files are a chain
  pub record AtEnd : Type 0 where
    pub end : IsAtEnd has
    pub good : failed ≡ false
    pub same : taken ≡ old
    pub kept : Consumes had has []
    pub whole : IsChain chain_limit files old
    pub still : IsAfter files new now taken

  pub next_end : (fault : Fault) → FileRead files before.bytes old taken had has failed new (Err fault) → IsEnd A new fault true → AtEnd
  next_end (Truncated place) r end =
      let is = told (Err (Truncated place)) r in
      let chain : AreChain A taken = subst (λ (v : Seen). AreChain A v.bytes) is.3 (end.0 refl).1 in
      let none : r.got ≡ [] = nothing_taken r.got (subst (ComesTo files) r.noted is.2) (subst (AreChain A) r.noted chain) in
      let same : taken ≡ old = r.noted ∙ ap (λ t. old ++ t) none ∙ append-nil old in
      let one = one_place files chain.0 (at_header []) (at_header []) taken (subst (HasCome files (at_header [])) (sym same) beyond.come)
      (chain_come taken chain) in
      record {
        end = is.1;
        good = is.4;
        same = same;
        kept = subst (Consumes had has) none r.eats;
        whole = subst (λ fs. IsChain chain_limit fs old) (sym one.0) (subst (IsChain chain_limit chain.0) same chain.1);
        still = record {
          fed = is.3;
          counted = counts (Err (Truncated place)) r;
          viable = subst (λ (v : Seen). IsViable A chain_limit v.bytes) is.3 viable;
          come = subst (HasCome files (at_header [])) (sym same) beyond.come;
        };
      }
  next_end fault r end = absurd cc

  -- ---- where a file's bytes begin what is left

  pub next_given : (f : FitFile A) (b x : List ℕ) (gs : List (FitFile A)) (result : Result (FitFile A) Fault) → had ≡ Some (b ++ x) → IsBytes b → IsFile f b
      → IsChain chain_limit gs (old ++ b)
      → FileRead files before.bytes old taken had has failed new result
      → GivesFile f (length (old ++ b)) x (record { before = had; after = has; failed = failed }) result
  next_given f b x gs result input are file chain r =
      given files old beyond.come f b x are file (gs, chain) r.got has failed new result (subst (λ h. Consumes h has r.got) input r.eats)
      (subst (λ t. FileTold files t has failed new result) r.noted (told result r))

-- What `next` gives where a file's bytes begin what is left.
abbrev pub NextGiven : {A S : Type 0} → (S → Option (List ℕ)) → Option (List ℕ) → Bool → Result (Option (FitFile A)) Fault → Past S → Type 0
NextGiven {A} remaining has failed result old =
    old.fault ≡ None → (fs : List (FitFile A)) (f : FitFile A) (b x : List ℕ) → remaining old.source ≡ Some (b ++ x) → IsBytes b → IsFile f b
    → IsChain chain_limit (fs ++ f ∷ []) (old.taken ++ b)
    → GivesNext f (length (old.taken ++ b)) x (record { before = remaining old.source; after = has; failed = failed }) result

-- where the reading ended after a whole chain, no file is given
pub end_not_given : {A : Type 0} (f : FitFile A) (n : ℕ) (x : List ℕ) (source : Channel) (new : Seen) (fault : Fault) → IsEnd A new fault true
    → GivesFile f n x source (Err fault) → ⊥
end_not_given f n x source new (Refused place reason) end never = never
end_not_given f n x source new (Truncated place) end never = never
end_not_given f n x source new fault end gives = absurd cc

pub fault_given : {A : Type 0} (f : FitFile A) (n : ℕ) (x : List ℕ) (source : Channel) (fault : Fault) → GivesFile f n x source (Err fault)
    → GivesNext f n x source (Err fault)
fault_given f n x source (Refused place reason) never = never
fault_given f n x source fault gives = gives

pub keeps : (a b : Option (List ℕ)) → Consumes a b [] → Keeps a b
keeps None b h = tt
keeps (Some x) None h = absurd h
keeps (Some x) (Some y) h = sym h

-- the decoder has come after the files
pub comes_after : {A : Type 0} (files : List (FitFile A)) (decoder : Seen) (count : ℕ) (taken : List ℕ) → IsAfter files decoder count taken
    → HasCome files (at_header []) decoder.bytes
comes_after files decoder count taken beyond = subst (λ (v : Seen). HasCome files (at_header []) v.bytes) (sym beyond.fed) beyond.come

-- no file yet
pub after_none : (A : Type 0) (decoder : Seen) (taken : List ℕ) → decoder ≡ unrefused [] → taken ≡ [] → IsAfter {A = A} [] decoder 0 taken
after_none A decoder taken fed none = record {
  fed = fed ∙ ap unrefused (sym none);
  counted = ap length (sym none);
  viable = subst (IsViable A chain_limit) (sym none) (nothing_viable A);
  come = subst (HasCome {A = A} [] (at_header [])) (sym none) (no_file_yet A);
}
