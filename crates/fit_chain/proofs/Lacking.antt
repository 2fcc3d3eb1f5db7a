-- Where memory may be refused.
use Rattle.fit_chain.proofs.Common.{◌≡◌, inl, inr, ℕ, ◌+◌, ◌-◌, ◌<◌, ◌≤◌, List, [], ◌∷◌, ◌++◌, length, take, get_or, refl, sym, ap, ◌∙◌, subst, arith}
use Rattle.fit_chain.proofs.Common.{append_assoc, length-append, append-nil, take-append-add, get_or-append-add, length-little_bytes, little_bytes, checksum}
use Rattle.fit_chain.proofs.Common.{FitFile, empty_environment, learn_all, body, summed, IsFile, IsViable, chain_limit, at_header, at_data}
use Rattle.fit_chain.proofs.Common.{HasCome, Event, file_end, AreEvents, Least, MayTakeMemory}
use Rattle.fit_chain.specs.Memory.{IsItemOrEnd, CompletesEvent, MayLackMemory, MayLackMemoryIn}
use Rattle.fit_chain.specs.Needs.{Needs}
use Rattle.fit_chain.proofs.Next.{more_of, more_sum, events_of, are_events, all_told, end_told}
use Rattle.std.proofs.Math.Seq.{take-length}
use Rattle.fit_chain.proofs.Whole.{partial_nothing}

front_is : (bytes piece : List ℕ) (k place : ℕ) → place ≡ length bytes + k → bytes ++ take k piece ≡ take place (bytes ++ piece)
front_is bytes piece k place is = sym (take-append-add bytes piece k) ∙ ap (λ n. take n (bytes ++ piece)) (sym is)

module _ {A : Type 0} (IsKept : Event A → Type 0) (bytes piece : List ℕ) where
  -- at a byte that may take memory
  pub lacks_for_byte : (used : ℕ) → used < length piece → IsViable A chain_limit (bytes ++ take (used + 1) piece)
      → MayTakeMemory A (bytes ++ take used piece) (get_or piece used 0) → MayLackMemoryIn A IsKept bytes piece
  lacks_for_byte used within viable takes =
      let place : ℕ = length bytes + used in (
        place,
        omega arith,
        record {
          within = omega (arith, within, length-append bytes piece);
          viable = subst (IsViable A chain_limit) (front_is bytes piece (used + 1) (place + 1) (omega arith)) viable;
          takes = inl
              (subst (λ b. MayTakeMemory A (take place (bytes ++ piece)) b) (sym (get_or-append-add bytes piece used 0))
              (subst (λ l. MayTakeMemory A l (get_or piece used 0)) (front_is bytes piece used place refl) takes));
        },
      )

  -- at a byte that completes an event
  pub lacks_for_event : (used : ℕ) (x : Event A) → IsKept x → 0 < used → used ≤ length piece → IsViable A chain_limit (bytes ++ take used piece)
      → Least A bytes piece used x → MayLackMemoryIn A IsKept bytes piece
  lacks_for_event used x kept some within viable (events, are, more, before) =
      let place : ℕ = length bytes + (used - 1) in
      let all : bytes ++ take used piece ≡ take (place + 1) (bytes ++ piece) = front_is bytes piece used (place + 1) (omega (arith, some)) in (
        place,
        omega arith,
        record {
          within = omega (arith, some, within, length-append bytes piece);
          viable = subst (IsViable A chain_limit) all viable;
          takes = inr (
            events,
            x,
            kept,
            subst (λ l. AreEvents l events) (front_is bytes piece (used - 1) place refl) (before (used - 1) (omega (arith, some))),
            subst (λ l. AreEvents l (events ++ x ∷ [])) all more,
          );
        },
      )

-- in what is left of a piece
pub lacks_in_rest : {A : Type 0} (IsKept : Event A → Type 0) (bytes piece mid rest : List ℕ) → mid ++ rest ≡ bytes ++ piece → length bytes ≤ length mid
    → MayLackMemoryIn A IsKept mid rest → MayLackMemoryIn A IsKept bytes piece
lacks_in_rest {A} IsKept bytes piece mid rest same long (place, after, lacks) =
    (place, omega (arith, after, long), subst (λ all. MayLackMemory A IsKept chain_limit all place) same lacks)

-- of a receiver that takes memory for more events
pub lacks_for_more : {A : Type 0} (P Q : Event A → Type 0) (limit : ℕ) (bytes : List ℕ) (place : ℕ) → ((x : Event A) → P x → Q x)
    → MayLackMemory A P limit bytes place → MayLackMemory A Q limit bytes place
lacks_for_more {A} P Q limit bytes place more l = record {
  within = l.within;
  viable = l.viable;
  takes = elim l.takes [
    | inl t ↦ inl t
    | inr (events, x, kept, are, now) ↦ inr (events, x, more x kept, are, now)
  ];
}

-- The last byte of a file completes an event: its end.
module _ {A : Type 0} (files : List (FitFile A)) (old got : List ℕ) (come : HasCome files (at_header []) old) (f : FitFile A) (file : IsFile f got)
    (ended : HasCome (files ++ f ∷ []) (at_header []) (old ++ got)) where
  abbrev n : ℕ
  n = length (body f)

  abbrev sum : List ℕ
  sum = little_bytes 2 (checksum (summed f))

  after_data : HasCome files (at_data f.header n f.records []) (old ++ summed f)
  after_data =
      more_of files (at_header []) (at_data f.header n f.records []) old (summed f) come
      (file.0.header, file.0.records, omega arith, partial_nothing (learn_all empty_environment f.records) (n - n)) (append-nil (summed f))

  before_end : HasCome files (at_data f.header n f.records (take 1 sum)) ((old ++ summed f) ++ take 1 sum)
  before_end = more_sum files f.header n f.records [] (old ++ summed f) (take 1 sum) after_data (omega arith) (omega arith)

  abbrev place : ℕ
  place = length (old ++ got) - 1

  parted : old ++ got ≡ (old ++ summed f) ++ sum
  parted = ap (λ b. old ++ b) file.1 ∙ sym (append_assoc old (summed f) sum)

  long : length (old ++ got) ≡ length (old ++ summed f) + 2
  long = ap length parted ∙ length-append (old ++ summed f) sum ∙ ap (λ m. length (old ++ summed f) + m) (length-little_bytes 2 (checksum (summed f)))

  before_is : (old ++ summed f) ++ take 1 sum ≡ take place (old ++ got)
  before_is =
      sym (take-append-add (old ++ summed f) sum 1) ∙ ap (λ m. take m ((old ++ summed f) ++ sum)) (omega (arith, long)) ∙ ap (take place) (sym parted)

  all_is : old ++ got ≡ take (place + 1) (old ++ got)
  all_is = sym (take-length (old ++ got)) ∙ ap (λ m. take m (old ++ got)) (omega (arith, long))

  pub completes_file : CompletesEvent A IsItemOrEnd (old ++ got) place
  completes_file =
      let g = at_data f.header n f.records (take 1 sum) in
      let events : List (Event A) = events_of files g in
      let are : AreEvents ((old ++ summed f) ++ take 1 sum) events = are_events files g ((old ++ summed f) ++ take 1 sum) before_end in (
        events,
        file_end,
        tt,
        subst (λ l. AreEvents l events) before_is are,
        subst (λ l. AreEvents l (events ++ file_end ∷ [])) all_is
            (all_told files (files ++ f ∷ []) g (at_header []) ((old ++ summed f) ++ take 1 sum) (old ++ got) (file_end ∷ []) before_end ended
            (end_told files f.header n f.records (take 1 sum) refl) events are),
      )

  -- before it one byte is missing
  pub needs_at_end : Needs A (take place (old ++ got)) 1
  needs_at_end = record {
    files = files;
    progress = at_data f.header n f.records (take 1 sum);
    come = subst (HasCome files (at_data f.header n f.records (take 1 sum))) before_is before_end;
    is = omega arith;
  }

  pub lacks_at_end : IsViable A chain_limit (old ++ got) → MayLackMemory A IsItemOrEnd chain_limit (old ++ got) place
  lacks_at_end viable = record {
    within = omega (arith, long);
    viable = subst (IsViable A chain_limit) all_is viable;
    takes = inr completes_file;
  }
