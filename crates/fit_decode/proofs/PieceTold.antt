-- What feeding a piece tells a reader, event by event.
use Rattle.fit_decode.proofs.Common.{◌≡◌, true, false, ℕ, ◌+◌, ◌≤◌, List, [], ◌∷◌, ◌++◌, length, take, drop, get_or, Some, None, Ok, Err, refl, sym, ap, ◌∙◌}
use Rattle.fit_decode.proofs.Common.{subst, arith, append_assoc, length-append, length-drop, length-take, get_or-drop, take-add, take-length, Reason, FitFile}
use Rattle.fit_decode.proofs.Common.{Record, chain_limit, Event, AreEvents, header, item, file_end, fed, Refuses, Quiet, Least, IsRefused, ComesToRecords}
use Rattle.fit_decode.proofs.Common.{ComesTo, Ended, PieceFed, unrefused, least_for, quiet_for, take-append-drop, IsViable, Wants, IsItem, MayLackMemoryIn, ◌<◌}
use Rattle.fit_decode.proofs.Common.{lacks_for_byte, lacks_for_event, lacks_in_rest}
use Rattle.std.proofs.Common.{Option}
use Rattle.fit_frame.specs.declared.header.Header.{Header}
use Rattle.fit_chain.specs.declared.event.Fault.TheVariants.{Refused, NoMemory}
use Rattle.fit_decode.specs.Answers.{Seen}
use Rattle.fit_chain.proofs.Gathered.{stands_quiet, stands_header, stands_item}
use Rattle.fit_chain.proofs.FileEnds.{ends_file}

pub fed_on : (old mid new : Seen) (piece : List ℕ) (at used : ℕ) → mid ≡ fed old piece at → new ≡ fed mid (drop at piece) used → new ≡ fed old piece (at + used)
fed_on old mid new piece at used is after =
    after ∙ ap (λ (v : Seen). fed v (drop at piece) used) is
    ∙ ap (λ (b : List ℕ). record { bytes = b; refusal = None })
    (append_assoc old.bytes (take at piece) (take used (drop at piece)) ∙ ap (λ (x : List ℕ). old.bytes ++ x) (sym (take-add at used piece)))

module _ {A : Type 0} (files : List (FitFile A)) (head : Option Header) (records : List (Record A)) (mid new : Seen) (piece : List ℕ) (used : ℕ)
    (s : ComesToRecords files head records mid.bytes) (after : new ≡ fed mid piece used) where
  here : (xs : List (Event A)) → AreEvents (mid.bytes ++ take used piece) xs → AreEvents new.bytes xs
  here xs are = subst (λ (v : Seen). AreEvents v.bytes xs) (sym after) are

  pub feeds_nothing : Quiet A mid.bytes piece used → ComesToRecords files head records new.bytes
  feeds_nothing quiet = stands_quiet files head records mid.bytes new.bytes s
      (λ events told. here events (quiet_for mid.bytes piece used quiet events told used (omega arith)))

  pub feeds_header : (h : Header) (n : ℕ) → Least A mid.bytes piece used (header h n) → ComesToRecords files (Some h) records new.bytes
  feeds_header h n least = stands_header files head records mid.bytes new.bytes s h n
      (λ events told. here (events ++ header h n ∷ []) (least_for mid.bytes piece used (header h n) least events told).0)

  pub feeds_item : (r : Record A) → Least A mid.bytes piece used (item r) → ComesToRecords files head (records ++ r ∷ []) new.bytes
  feeds_item r least = stands_item files head records mid.bytes new.bytes s r
      (λ events told. here (events ++ item r ∷ []) (least_for mid.bytes piece used (item r) least events told).0)

-- the whole piece was fed
pub piece_over : {A : Type 0} (files : List (FitFile A)) (head : Option Header) (records : List (Record A)) (old new : Seen) (piece : List ℕ) (k : ℕ)
    → new ≡ fed old piece k → k ≡ length piece → ComesToRecords files head records new.bytes → PieceFed files old.bytes piece new head records (Ok false)
piece_over files head records old new piece k after all s =
    let same : new ≡ unrefused (old.bytes ++ piece) = after ∙ ap (λ (b : List ℕ). unrefused (old.bytes ++ b)) (ap (λ n. take n piece) all ∙ take-length piece)
    in
    (same, subst (λ (v : Seen). ComesToRecords files head records v.bytes) same s)

module _ {A : Type 0} (files : List (FitFile A)) (head : Option Header) (records : List (Record A)) (old mid new : Seen) (piece : List ℕ) (at : ℕ)
    (within : at ≤ length piece) (is : mid ≡ fed old piece at) (s : ComesToRecords files head records mid.bytes) where
  joined : (u : ℕ) → mid.bytes ++ take u (drop at piece) ≡ old.bytes ++ take (at + u) piece
  joined u = ap (λ (v : Seen). v.bytes) (fed_on old mid (fed mid (drop at piece) u) piece at u is refl)

  pub piece_more : (used : ℕ) → new ≡ fed mid (drop at piece) used → used ≡ length (drop at piece) → Quiet A mid.bytes (drop at piece) used
      → PieceFed files old.bytes piece new head records (Ok false)
  piece_more used after all quiet =
      piece_over files head records old new piece (at + used) (fed_on old mid new piece at used is after) (omega (arith, all, length-drop at piece, within))
      (feeds_nothing files head records mid new (drop at piece) used s after quiet)

  pub piece_end : (used : ℕ) → new ≡ fed mid (drop at piece) used → used ≤ length (drop at piece) → Least A mid.bytes (drop at piece) used file_end
      → PieceFed files old.bytes piece new head records (Ok true)
  piece_end used after below least =
      let there = ends_file files head records mid.bytes (drop at piece) used s least in (
        at + used,
        omega (arith, below, length-drop at piece, within),
        fed_on old mid new piece at used is after,
        there.0,
        there.1,
        subst (Ended files (record { header = there.0; records = records })) (joined used) there.2,
      )

  pub piece_refused : (place : ℕ) (reason : Reason) → Refuses A mid (drop at piece) new place reason
      → PieceFed files old.bytes piece new head records (Err (Refused place reason))
  piece_refused place reason refuses =
      let u : ℕ = refuses.used in
      let begun = stands_quiet files head records mid.bytes (mid.bytes ++ take u (drop at piece)) s
      (λ events told. quiet_for mid.bytes (drop at piece) u refuses.quiet events told u (omega arith)) in (
        at + u,
        omega (arith, refuses.within, length-drop at piece),
        omega (arith, refuses.is_place, ap (λ (v : Seen). length v.bytes) is, length-append old.bytes (take at piece), length-take at piece),
        subst (ComesTo files) (joined u) (begun.progress, begun.come),
        subst (λ bytes. IsRefused A chain_limit bytes (get_or piece (at + u) 0) reason) (joined u)
            (subst (λ b. IsRefused A chain_limit (mid.bytes ++ take u (drop at piece)) b reason) (get_or-drop at piece u 0) refuses.why),
      )

  -- memory was refused in what is left of the piece
  lacks_in_piece : MayLackMemoryIn A IsItem mid.bytes (drop at piece) → MayLackMemoryIn A IsItem old.bytes piece
  lacks_in_piece =
      let front : mid.bytes ≡ old.bytes ++ take at piece = ap (λ (v : Seen). v.bytes) is in
      lacks_in_rest IsItem old.bytes piece mid.bytes (drop at piece)
      (ap (λ b. b ++ drop at piece) front ∙ append_assoc old.bytes (take at piece) (drop at piece) ∙ ap (λ b. old.bytes ++ b) (take-append-drop at piece))
      (omega (arith, ap length front, length-append old.bytes (take at piece)))

  pub piece_wants : (taken used : ℕ) → taken ≡ length old.bytes + length piece → Wants A mid (drop at piece) new used
      → PieceFed files old.bytes piece new head records (Err (NoMemory taken))
  piece_wants taken used counted wants =
      (counted, lacks_in_piece (lacks_for_byte IsItem mid.bytes (drop at piece) used wants.within wants.next wants.takes))

  -- there was no memory for a record
  pub piece_not_kept : (taken used : ℕ) (r : Record A) → taken ≡ length old.bytes + length piece → new ≡ fed mid (drop at piece) used
      → used ≤ length (drop at piece) → 0 < used → Least A mid.bytes (drop at piece) used (item r) → IsViable A chain_limit new.bytes
      → PieceFed files old.bytes piece new head records (Err (NoMemory taken))
  piece_not_kept taken used r counted after below some least viable = (
    counted,
    lacks_in_piece
        (lacks_for_event IsItem mid.bytes (drop at piece) used (item r) tt some below
        (subst (λ (v : Seen). IsViable A chain_limit v.bytes) after viable) least),
  )
