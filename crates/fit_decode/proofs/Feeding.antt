-- What a caller of `feed` sees: that the invariant is kept, and what is told of the bytes used.
use Rattle.fit_decode.proofs.Common.{◌≡◌, ℕ, ◌+◌, ◌<◌, ◌≤◌, List, ◌++◌, length, take, slice_index, refl, sym, ap, ◌∙◌, subst, arith, length-append}
use Rattle.fit_decode.proofs.Common.{Some, None, Ok, Err, length-take-le, IsBytes, IsBytes-append, IsBytes-take, Reason}
use Rattle.fit_decode.proofs.Common.{empty_environment, ◌^◌, seen_in, refusal_of, Latched, HoldsAt, Section}
use Rattle.fit_decode.proofs.Common.{Stop, Inside, Answer, Event, header, item, file_end, event_of, Refuses, Wants, Quiet, Least, AreChain, IsRefused}
use Rattle.fit_decode.proofs.Common.{Advanced, NotRefused, NextAnswer, Holds, IsSoundDecoder, fields_inside, short_bytes, chain_limit, IsViable}
use Rattle.std.specs.Prelude.{Option, Result}
use Rattle.fit_step.specs.declared.stop.Stop.TheVariants.{Refused, NoMemory}
use Rattle.fit_chain.specs.declared.event.Fault.TheVariants as faults
use Rattle.fit_decode.specs.Answers.{Seen, fed}
use Rattle.fit_decode.specs.inner.Feeds.{Feeds}
use Rattle.fit_chain.specs.declared.event.Event.TheVariants as answers
use Rattle.fit_decode.proofs.Ended.{HasEnded, ended_chain, chain_ended}

-- ---- what is told

used_at_most : {A : Type 0} (bytes piece : List ℕ) (used : ℕ) (answer : Result (Answer A) Stop) → Advanced bytes piece used answer → used ≤ length piece
used_at_most bytes piece used (Ok answers.More) t = omega (arith, t.0)
used_at_most bytes piece used (Ok event) t = t.1
used_at_most bytes piece used (Err (Refused reason)) t = omega (arith, t.0)
used_at_most bytes piece used (Err NoMemory) t = omega (arith, t.0)

tells_none : {A : Type 0} (bytes piece : List ℕ) (used : ℕ) (event : Answer A) → Advanced bytes piece used (Ok event) → event_of event ≡ None
    → (used ≡ length piece) × Quiet A bytes piece used
tells_none bytes piece used answers.More t is = t
tells_none bytes piece used event t is = absurd cc

tells_one : {A : Type 0} (bytes piece : List ℕ) (used : ℕ) (event : Answer A) → Advanced bytes piece used (Ok event) → (x : Event A) → event_of event ≡ Some x
    → (0 < used) × Least A bytes piece used x
tells_one bytes piece used answers.More t x is = absurd cc
tells_one {A} bytes piece used (answers.Header h n) t x is = let same : header h n ≡ x = cc in (t.0, subst (Least A bytes piece used) same t.2)
tells_one {A} bytes piece used (answers.Item r) t x is = let same : item r ≡ x = cc in (t.0, subst (Least A bytes piece used) same t.2)
tells_one {A} bytes piece used answers.FileEnd t x is = let same : file_end ≡ x = cc in (t.0, subst (Least A bytes piece used) same t.2)

pub not_refused : {A : Type 0} {answer : Result (Answer A) Stop} {event : Answer A} → answer ≡ Ok event → NotRefused answer
not_refused {A} is = subst (NotRefused {A = A}) (sym is) tt

pub not_for_memory : {A : Type 0} {answer : Result (Answer A) Stop} → answer ≡ Err NoMemory → NotRefused answer
not_for_memory {A} is = subst (NotRefused {A = A}) (sym is) tt

-- ---- the invariant

module _ {A : Type 0} {d : Inside A} (k : IsSoundDecoder d) (piece : List ℕ) (used : ℕ) (low : IsBytes piece) (within : used ≤ length piece)
    (viable : IsViable A chain_limit (d.history.items ++ take used piece)) where
  more_bytes : length (d.history.items ++ take used piece) ≡ d.count + used
  more_bytes = omega (arith, length-append d.history.items (take used piece), k.counted, length-take-le used piece within)

  pub few_more : d.count + used < 2 ^ 64
  few_more = omega (arith, more_bytes, short_bytes (d.history.items ++ take used piece) viable)

  pub sound_after : (n : Inside A) → n.history.items ≡ d.history.items ++ take used piece → n.count ≡ d.count + used
      → Holds (fields_inside n) (d.history.items ++ take used piece) → IsSoundDecoder n
  sound_after n took counted holds = record {
    viable = subst (IsViable A chain_limit) (sym took) viable;
    are = subst IsBytes (sym took) (IsBytes-append d.history.items (take used piece) k.are (IsBytes-take used piece low));
    counted = counted ∙ sym more_bytes ∙ ap length (sym took);
    holds = subst (Holds (fields_inside n)) (sym took) holds;
  }

pub fresh_holds_all : {P : Type 0} (refusal : Option Reason) → refusal ≡ None → (reason : Reason) → refusal ≡ Some reason → P
fresh_holds_all refusal fresh reason is = absurd (let both : Some reason ≡ None = sym is ∙ fresh in cc)

pub not_latched : (section : Section) → ((reason : Reason) → section ≡ Latched reason → ⊥) → refusal_of section ≡ None
not_latched (Latched reason) not = absurd (not reason refl)
not_latched section not = refl

-- What a piece makes of a decoder, before its bytes are counted.
pub record Took {A : Type 0} (d now : Inside A) (piece : List ℕ) (used : ℕ) (answer : Result (Answer A) Stop) : Type 0 where
  pub sound : IsSoundDecoder d
  pub was : refusal_of d.stage.section ≡ None
  pub low : IsBytes piece
  pub next : NextAnswer (fields_inside now) d.history.items piece used answer
  pub counted : now.count ≡ d.count
  pub items : now.history.items ≡ d.history.items

pub takes : {A : Type 0} {d now : Inside A} {piece : List ℕ} {used : ℕ} {answer : Result (Answer A) Stop} → IsSoundDecoder d
    → refusal_of d.stage.section ≡ None → IsBytes piece → NextAnswer (fields_inside now) d.history.items piece used answer → now.count ≡ d.count
    → now.history.items ≡ d.history.items → Took d now piece used answer
takes sound none low next counted items = record { sound = sound; was = none; low = low; next = next; counted = counted; items = items }

module _ {A : Type 0} {d now : Inside A} {piece : List ℕ} {used : ℕ} {answer : Result (Answer A) Stop} (t : Took d now piece used answer) where
  pub within : used ≤ length piece
  within = used_at_most d.history.items piece used answer t.next.told

  pub few_bytes : now.count + used < 2 ^ 64
  few_bytes = omega (arith, t.counted, few_more t.sound piece used t.low within t.next.viable)

  all_items : (bytes : List ℕ) → bytes ≡ now.history.items ++ take used piece → bytes ≡ d.history.items ++ take used piece
  all_items bytes noted = noted ∙ ap (λ b. b ++ take used piece) t.items

  module _ (n : Inside A) (noted : n.history.items ≡ now.history.items ++ take used piece) (counted : n.count ≡ now.count + used) where
    pub still_kept : fields_inside n ≡ fields_inside now → NotRefused answer → IsSoundDecoder n
    still_kept same taken = sound_after t.sound piece used t.low within t.next.viable n (all_items n.history.items noted)
        (counted ∙ ap (λ m. m + used) t.counted) (subst (λ f. Holds f (d.history.items ++ take used piece)) (sym same) (t.next.holds taken))

    pub refused_kept : (reason : Reason) → n.stage.section ≡ Latched reason → n.env ≡ empty_environment → n.in_progress ≡ None → IsSoundDecoder n
    refused_kept reason is known idle = sound_after t.sound piece used t.low within t.next.viable n (all_items n.history.items noted)
        (counted ∙ ap (λ m. m + used) t.counted)
        (subst (λ s. HoldsAt s (fields_inside n) (d.history.items ++ take used piece)) (sym is) (known, idle))

-- ---- the clauses

module _ {A : Type 0} (d : Inside A) (k : IsSoundDecoder d) (old : Seen) (seen : seen_in d ≡ old) where
  bytes_seen : d.history.items ≡ old.bytes
  bytes_seen = ap (λ (s : Seen). s.bytes) seen

  pub was_viable : IsViable A chain_limit old.bytes
  was_viable = subst (IsViable A chain_limit) bytes_seen k.viable

  pub place_seen : d.count ≡ length old.bytes
  place_seen = k.counted ∙ ap length bytes_seen

  pub reason_seen : (was reason : Reason) → d.stage.section ≡ Latched was → old.refusal ≡ Some reason → was ≡ reason
  reason_seen was reason kept is = let both : Some was ≡ Some reason = sym (ap refusal_of kept) ∙ ap (λ (s : Seen). s.refusal) seen ∙ is in cc

  pub reason_kept : (was : Reason) → d.stage.section ≡ Latched was → old.refusal ≡ None → ⊥
  reason_kept was kept fresh = let both : Some was ≡ None = sym (ap refusal_of kept) ∙ ap (λ (s : Seen). s.refusal) seen ∙ fresh in cc

  -- where no byte was refused
  pub none_refused : {P : Type 0} → refusal_of d.stage.section ≡ None → (reason : Reason) → old.refusal ≡ Some reason → P
  none_refused fresh = fresh_holds_all old.refusal (ap (λ (s : Seen). s.refusal) (sym seen) ∙ fresh)

  pub feeds_latched : (piece : List ℕ) (was : Reason) → d.stage.section ≡ Latched was → Feeds A old piece old (Err (faults.Refused d.count was))
  feeds_latched piece was kept = record {
    latched = λ reason is. ((λ i. Err (faults.Refused (place_seen i) (reason_seen was reason kept is i))), refl);
    used = tt;
    more = tt;
    event = tt;
    refused = λ _ _ fresh _. absurd (reason_kept was kept fresh);
    memory = λ _ is. absurd cc;
    others = λ _. ((λ is. absurd cc), (λ is. absurd cc));
  }

  module _ (none : refusal_of d.stage.section ≡ None) where
    pub chain_fed : HasEnded (fields_inside d) → (old.refusal ≡ None) × AreChain A old.bytes
    chain_fed ended = (
      ap (λ (s : Seen). s.refusal) (sym seen) ∙ none,
      subst (AreChain A) bytes_seen (ended_chain (fields_inside d) d.history.items k.holds ended),
    )

    pub ends_with_chain : AreChain A old.bytes → HasEnded (fields_inside d)
    ends_with_chain chain = chain_ended (fields_inside d) d.history.items k.holds none (subst (AreChain A) (sym bytes_seen) chain)

module _ {A : Type 0} {d now : Inside A} {piece : List ℕ} {used : ℕ} {answer : Result (Answer A) Stop} (t : Took d now piece used answer) {old : Seen}
    (seen : seen_in d ≡ old) where
  same_bytes : d.history.items ≡ old.bytes
  same_bytes = ap (λ (s : Seen). s.bytes) seen

  seen_told : (is : Result (Answer A) Stop) → answer ≡ is → Advanced old.bytes piece used is
  seen_told is same = subst (Advanced old.bytes piece used) same (subst (λ b. Advanced b piece used answer) same_bytes t.next.told)

  all_seen : (bytes : List ℕ) → bytes ≡ now.history.items ++ take used piece → bytes ≡ old.bytes ++ take used piece
  all_seen bytes noted = all_items t bytes noted ∙ ap (λ b. b ++ take used piece) same_bytes

  bytes_fed : NotRefused answer → (bytes : List ℕ) → bytes ≡ now.history.items ++ take used piece
      → (used ≤ length piece) × (record { bytes = bytes; refusal = refusal_of now.stage.section } ≡ fed old piece used)
  bytes_fed taken bytes noted = (within t, λ i. record { bytes = all_seen bytes noted i; refusal = t.next.fresh taken i })

  pub no_event : (event : Answer A) → answer ≡ Ok event → event_of event ≡ None → (used ≡ length piece) × Quiet A old.bytes piece used
  no_event event is = tells_none old.bytes piece used event (seen_told (Ok event) is)

  pub one_event : (event : Answer A) → answer ≡ Ok event → (x : Event A) → event_of event ≡ Some x → (0 < used) × Least A old.bytes piece used x
  one_event event is = tells_one old.bytes piece used event (seen_told (Ok event) is)

  pub refuses : (reason : Reason) → answer ≡ Err (Refused reason) → (bytes : List ℕ) → bytes ≡ now.history.items ++ take used piece
      → (place : ℕ) (why : Reason) → now.count + used ≡ place → reason ≡ why → Refuses A old piece (record { bytes = bytes; refusal = Some reason }) place why
  refuses reason is bytes noted place why at same =
      let told = seen_told (Err (Refused reason)) is in
      record {
        used = used;
        within = told.0;
        is_place = omega (arith, at, t.counted, t.sound.counted, ap length same_bytes);
        after = λ i. record { bytes = all_seen bytes noted i; refusal = Some (same i) };
        quiet = told.1;
        why = subst (IsRefused A chain_limit (old.bytes ++ take used piece) (slice_index piece used)) same told.2;
      }

  pub wants : answer ≡ Err NoMemory → (bytes : List ℕ) → bytes ≡ now.history.items ++ take used piece → (count : ℕ) → used ≡ count
      → Wants A old piece (record { bytes = bytes; refusal = refusal_of now.stage.section }) count
  wants is bytes noted count same =
      let told = seen_told (Err NoMemory) is in
      subst (Wants A old piece (record { bytes = bytes; refusal = refusal_of now.stage.section })) same (record {
        within = told.0;
        after = (bytes_fed (not_for_memory is) bytes noted).1;
        quiet = told.1;
        next = told.2;
        takes = told.3;
      })

  fresh_seen : old.refusal ≡ None
  fresh_seen = ap (λ (s : Seen). s.refusal) (sym seen) ∙ t.was

  module _ (bytes : List ℕ) (noted : bytes ≡ now.history.items ++ take used piece) where
    pub feeds_event : (event : Answer A) → answer ≡ Ok event
        → Feeds A old piece (record { bytes = bytes; refusal = refusal_of now.stage.section }) (Ok (record { used = used; event = event }))
    feeds_event event is = record {
      latched = λ reason refused. fresh_holds_all old.refusal fresh_seen reason refused;
      used = bytes_fed (not_refused is) bytes noted;
      more = no_event event is;
      event = one_event event is;
      refused = λ _ _ _ never. absurd cc;
      memory = λ _ never. absurd cc;
      others = λ _. ((λ never. absurd cc), (λ never. absurd cc));
    }

    pub feeds_refusal : (reason : Reason) → answer ≡ Err (Refused reason) → (count : ℕ) → count ≡ now.count + used
        → Feeds A old piece (record { bytes = bytes; refusal = Some reason }) (Err (faults.Refused count reason))
    feeds_refusal reason is count counted = record {
      latched = λ was refused. fresh_holds_all old.refusal fresh_seen was refused;
      used = tt;
      more = tt;
      event = tt;
      refused = λ place why _ both.
          let at : count ≡ place = cc both in
          let same : reason ≡ why = cc both in
          refuses reason is bytes noted place why (sym counted ∙ at) same;
      memory = λ _ never. absurd cc;
      others = λ _. ((λ never. absurd cc), (λ never. absurd cc));
    }

    pub feeds_want : answer ≡ Err NoMemory
        → Feeds A old piece (record { bytes = bytes; refusal = refusal_of now.stage.section }) (Err (faults.NoMemory used))
    feeds_want is = record {
      latched = λ was refused. fresh_holds_all old.refusal fresh_seen was refused;
      used = tt;
      more = tt;
      event = tt;
      refused = λ _ _ _ never. absurd cc;
      memory = λ count both. let same : used ≡ count = cc both in wants is bytes noted count same;
      others = λ _. ((λ never. absurd cc), (λ never. absurd cc));
    }
