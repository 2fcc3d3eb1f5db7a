-- The fields of a data message of which the bytes are kept as they came are made when it is read.
use Rattle.fit_step.proofs.Common.{◌≡◌, ℕ, ◌+◌, ◌<◌, inl, Bool, true, false, List, [], ◌∷◌, ◌++◌, length, take, drop, refl, sym, ap, ◌∙◌, subst, arith}
use Rattle.fit_step.proofs.Common.{None, Option, Result, Ok, Err, append-nil, take_more, slice_index, IsBytes, Record, Environment, StandsAfter, IsKeptMessage}
use Rattle.fit_step.proofs.Common.{IsInProgress, FillFrom, Position, Begins, state_at, Stop, NoMemory, Refused, StandsWithRoom, Reason, CanFill}
use Rattle.fit_step.specs.InProgress.{ReadsInPlace}
use Rattle.fit_base.proofs.ByteLists.{IsBytes-drop}
use Rattle.std.proofs.lemmas.List.{take-append-drop}
use Rattle.std.proofs.Math.Seq.{take-length}
use Rattle.fit_step.proofs.KeptMessages.{front_fills, kept_goes_on}
use Rattle.fit_step.proofs.RecordsInProgress.{begins_stands, kept_in_progress, kept_some, room_after, room_filled}

module _ {A : Type 0} (e : Environment A) (p : Position) (o : Option (Record A)) where
  -- whatever is said to have come
  pub still_kept : (room other : ℕ) (bytes others : List ℕ) → IsKeptMessage e room bytes p o → IsInProgress e other others p o
      → IsKeptMessage e other others p o
  still_kept room other bytes others k h = kept_in_progress e other others p o h k.phase (kept_some e room bytes p o k)

  module _ (room : ℕ) (bytes : List ℕ) (k : IsKeptMessage e room bytes p o) (q : Position) (begins : Begins q) (all : q.room ≡ p.room + length p.partial) where
    pub starts_anew : StandsAfter e room [] (state_at q None)
    starts_anew =
        let same : q.room ≡ room = omega (arith, all, ap length k.partial, k.total) in
        subst (λ n. StandsAfter {A = A} e n [] (state_at q None)) same
        (begins_stands e q k.sixteen begins (subst (CanFill e) (sym same) (room_filled e room bytes k.are_bytes k.fills)))

    pub waits_anew : StandsWithRoom {A = A} e (state_at q None)
    waits_anew =
        let some : 0 < room = (let total = k.total in omega (arith, total, ap length k.begins)) in
        room_after e room [] (state_at q None) starts_anew some

    module _ (after : Environment A) (r : Position) (made : Option (Record A)) (kept : List ℕ) (same : kept ≡ p.partial) (used : ℕ) where
      are_kept : kept ≡ bytes
      are_kept = same ∙ k.partial

      -- The bytes that are kept are read, and nothing is learned;
      pub known_still : ReadsInPlace e q None after r made kept used (Ok false) → after ≡ e
      known_still reads = (reads room [] (inl starts_anew)).1

      pub made_now : ReadsInPlace e q None after r made kept used (Ok false) → IsInProgress e room bytes r made
      made_now reads =
          let all_read = reads room [] (inl starts_anew) in
          let whole : take used kept ≡ bytes = ap (λ n. take n kept) all_read.0 ∙ take-length kept ∙ are_kept in
          subst (λ l. IsInProgress e room l r made) whole all_read.2

      pub known_starved : ReadsInPlace e q None after r made kept used (Err NoMemory) → after ≡ e
      known_starved reads = (reads room [] (inl starts_anew)).1

      -- they are no whole record, and none of them is refused.
      pub no_whole : ReadsInPlace e q None after r made kept used (Ok true) → ⊥
      no_whole (s, is, reads) =
          let told = reads room [] (inl starts_anew) in
          let whole = told.3 in
          k.none s (drop used kept) whole.0 (sym are_kept ∙ sym (take-append-drop used kept) ∙ ap (λ b. b ++ drop used kept) whole.1)

      pub none_refused : (reason : Reason) → ReadsInPlace e q None after r made kept used (Err (Refused reason)) → ⊥
      none_refused reason reads =
          let told = reads room [] (inl starts_anew) in
          let within = told.0 in
          let front : List ℕ = take (used + 1) kept in
          let parts : bytes ≡ front ++ drop (used + 1) kept = sym are_kept ∙ sym (take-append-drop (used + 1) kept) in
          let low : IsBytes (drop (used + 1) kept) = IsBytes-drop (used + 1) kept (subst IsBytes (sym are_kept) k.are_bytes) in
          let fills : FillFrom e room front = front_fills e room front (drop (used + 1) kept) low (subst (FillFrom e room) parts k.fills) in
          told.4 (subst (FillFrom e room) (take_more kept used 0 within) fills)

-- What is read on then is read of the message.
pub read_on : {A : Type 0} (e now env : Environment A) (p q r : Position) (o made in_progress : Option (Record A)) (piece : List ℕ) (used : ℕ)
    (answer : Result Bool Stop) → now ≡ e → ((room : ℕ) (bytes : List ℕ) → IsInProgress e room bytes p o → IsInProgress e room bytes q made)
    → ReadsInPlace now q made env r in_progress piece used answer → ReadsInPlace e p o env r in_progress piece used answer
read_on {A} e now env p q r o made in_progress piece used answer known to reads =
    go answer (subst (λ (f : Environment A). ReadsInPlace f q made env r in_progress piece used answer) known reads)
  where
    go : (a : Result Bool Stop) → ReadsInPlace e q made env r in_progress piece used a → ReadsInPlace e p o env r in_progress piece used a
    go (Ok false) read = λ room bytes h. read room bytes (to room bytes h)
    go (Ok true) (s, is, read) = (s, is, λ room bytes h. read room bytes (to room bytes h))
    go (Err stop) read = λ room bytes h. read room bytes (to room bytes h)

-- No byte of a message is refused, so that memory may be.
pub kept_starves : {A : Type 0} (e after : Environment A) (p : Position) (o : Option (Record A)) (piece : List ℕ) (room : ℕ) (bytes : List ℕ)
    → IsKeptMessage e room bytes p o → IsBytes piece → 0 < length piece → after ≡ e → ReadsInPlace e p o after p o piece 0 (Err NoMemory)
kept_starves e after p o piece room bytes k low some same = λ other others h.
    let here = still_kept e p o room other bytes others k h in
    let nothing : others ≡ others ++ [] = sym (append-nil others) in (
      some,
      same,
      subst (λ l. IsInProgress e other l p o) nothing h,
      subst (λ l. FillFrom e other (l ++ slice_index piece 0 ∷ [])) nothing (kept_goes_on e other others p o here (slice_index piece 0) (low 0)),
      λ none. absurd (let empty : here.header ∷ here.body ≡ [] = sym here.begins ∙ nothing ∙ none in cc),
    )

pub none_read : {A : Type 0} (e : Environment A) (p : Position) (o : Option (Record A)) (piece : List ℕ) → length piece ≡ 0
    → ReadsInPlace e p o e p o piece 0 (Ok false)
none_read e p o piece none = λ room bytes h. (sym none, refl, subst (λ l. IsInProgress e room l p o) (sym (append-nil bytes)) h)
