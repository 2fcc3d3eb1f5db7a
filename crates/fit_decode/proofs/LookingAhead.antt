-- What messages that are looked at ahead make of a decoder.
use Rattle.fit_decode.proofs.Common.{◌≡◌, ◌⊎◌, inl, inr, zero, suc, ℕ, ◌+◌, ◌-◌, ◌<◌, ◌≤◌, ◌^◌, List, [], ◌∷◌, ◌++◌, length, take, drop, refl, sym, ap}
use Rattle.fit_decode.proofs.Common.{◌∙◌, subst, arith, None, map, append_assoc, append-nil, length-append, length-drop, take-add, take-append-drop}
use Rattle.fit_decode.proofs.Common.{IsBytes, IsBytes-append, IsBytes-take, IsBytes-drop, FileHeader, FitFile, Record, Environment, learn_all}
use Rattle.fit_decode.proofs.Common.{empty_environment, AllFit, IsRecord, record_bytes, records_bytes, all_fit-append, records_bytes-append, learn_all-append}
use Rattle.fit_decode.proofs.Common.{Position, idle_between_records, records_in_progress, Inside, IsSoundDecoder, fields_inside, seen_in, refusal_of}
use Rattle.fit_decode.proofs.Common.{Section, InSection, ClosingSum, Latched, at_data, at_header, HasCome, Event, item, AreEvents, Fields, Holds, HoldsAt}
use Rattle.fit_decode.proofs.Common.{IsAny, MayLackMemoryIn, lacks_for_event, lacks_in_rest, known_in_data, one_place}
use Rattle.fit_record.specs.declared.message.Values.{Values}
use Rattle.fit_record.specs.declared.message.Record.TheVariants.{Values as Message}
use Rattle.fit_chain.specs.Events.{known_after}
use Rattle.fit_step.proofs.SkippedRecords.{skipped_after}
use Rattle.fit_step.specs.Skipping.{HasMessage, Learns, SkipsInSection}
use Rattle.fit_decode.specs.Answers.{Seen, MessageFollows, MessagesFollow, NextMessage, RecordIsToCome}
use Rattle.fit_decode.specs.declared.section.Section.TheVariants.{Header}
use Rattle.fit_decode.specs.inner.Aheads.{IsAhead, RoomAhead}
use Rattle.fit_decode.specs.inner.Skips.{Skipped}
use Rattle.fit_decode.proofs.Feeding.{few_more, sound_after}
use Rattle.fit_decode.proofs.Skipping.{data_here, in_data_here, follows_at, skips, skips_none, message_least}

-- records after records
learns_more : {A : Type 0} (e f g : Environment A) (y z : List ℕ) (rs ss : List (Record A)) → Learns e f y rs → Learns f g z ss
    → Learns e g (y ++ z) (rs ++ ss)
learns_more {A} e f g y z rs ss ((fit, is), same) ((more, next), last) = (
  (
    all_fit-append e rs ss fit (subst (λ k. AllFit k ss) (sym same) more),
    (λ i. is i ++ next i) ∙ (λ i. records_bytes e rs ++ records_bytes (sym same i) ss) ∙ sym (records_bytes-append e rs ss),
  ),
  learn_all-append e rs ss ∙ ap (λ k. learn_all k ss) same ∙ last,
)

-- ---- the room

-- None is ahead where the section isn't a data section.
pub none_ahead : {A : Type 0} (d : Inside A) → IsSoundDecoder d → (d.stage.section ≡ InSection → ⊥) → RoomAhead A (seen_in d) 0 0
none_ahead {A} d k other = record {
  left = λ fresh fs h n before come. go fs h n before come d.stage.section refl k.holds fresh;
  here = λ some. absurd (omega (arith, some));
}
  where
    go : (fs : List (FitFile A)) (h : FileHeader) (n : ℕ) (before : List (Record A)) → HasCome fs (at_data h n before []) d.history.items
        → (s : Section) → d.stage.section ≡ s → HoldsAt s (fields_inside d) d.history.items → refusal_of s ≡ None
        → 0 + 0 ≡ n - length (records_bytes empty_environment before)
    go fs h n before come (Latched reason) is holds fresh = absurd cc
    go fs h n before come InSection is holds fresh = absurd (other is)
    go fs h n before come ClosingSum is holds fresh =
        let same = data_here (fields_inside d) d.history.items fs h n before come holds.files holds.header holds.size holds.records _ holds.come in
        omega (arith, holds.over, same.2)
    go fs h n before come Header is holds fresh =
        let same = (one_place holds.files fs (at_header d.sum) (at_data h n before []) d.history.items holds.come come).1 in absurd cc

module _ {A : Type 0} (d : Inside A) (k : IsSoundDecoder d) (at : d.stage.section ≡ InSection) where
  -- nor inside a record
  pub none_inside : (d.in_progress ≡ None → ⊥) → RoomAhead A (seen_in d) 0 0
  none_inside busy =
      let kept = subst (λ s. HoldsAt s (fields_inside d) d.history.items) at k.holds in
      let room = kept.size - length (records_bytes empty_environment kept.records) in
      record {
        left = λ fresh fs h n before come.
            let same = data_here (fields_inside d) d.history.items fs h n before come kept.files kept.header kept.size kept.records kept.part kept.come in
            absurd (busy ((idle_between_records d.env room kept.part d.position d.in_progress kept.in_record).1 same.1));
        here = λ some. absurd (omega (arith, some));
      }

  pub room_here : d.in_progress ≡ None → RoomAhead A (seen_in d) 0 d.position.room
  room_here idle =
      let kept = subst (λ s. HoldsAt s (fields_inside d) d.history.items) at k.holds in
      let room = kept.size - length (records_bytes empty_environment kept.records) in
      let no_part = (idle_between_records d.env room kept.part d.position d.in_progress kept.in_record).0 idle in
      let all = (records_in_progress d.env room kept.part d.position d.in_progress kept.in_record).2 in
      record {
        left = λ fresh fs h n before come.
            let same = data_here (fields_inside d) d.history.items fs h n before come kept.files kept.header kept.size kept.records kept.part kept.come in
            omega (arith, all, ap length no_part, same.2);
        here = λ some. (
          ap refusal_of at,
          kept.files,
          kept.header,
          kept.size,
          kept.records,
          subst (λ p. HasCome kept.files (at_data kept.header kept.size kept.records p) d.history.items) no_part kept.come,
        );
      }

-- There is room just where a record is to come.
pub record_to_come : {A : Type 0} (seen : Seen) (room : ℕ) → RoomAhead A seen 0 room → 0 < room → RecordIsToCome A seen
record_to_come seen room r some =
    let (fresh, fs, h, n, before, come) = r.here some in
    let all = r.left fresh fs h n before come in
    (fresh, fs, h, n, before, come, omega (arith, some, all))

pub room_to_come : {A : Type 0} (seen : Seen) (room : ℕ) → RoomAhead A seen 0 room → RecordIsToCome A seen → 0 < room
room_to_come seen room r (fresh, fs, h, n, before, come, some) =
    let all = r.left fresh fs h n before come in
    omega (arith, some, all)

room_more : {A : Type 0} (seen : Seen) (used room size : ℕ) → size ≤ room → RoomAhead A seen used room → RoomAhead A seen (used + size) (room - size)
room_more seen used room size enough r = record {
  left = λ fresh fs h n before come. let all = r.left fresh fs h n before come in omega (arith, all, enough);
  here = λ some. r.here (omega (arith, some));
}

-- ---- messages that follow

pub follow_within : {A : Type 0} (seen : Seen) (piece : List ℕ) (used : ℕ) (rs : List (Record A)) → MessagesFollow A seen piece used rs → used ≤ length piece
follow_within seen piece used rs follow =
    elim follow [
      | inl n ↦ omega (arith, n.0)
      | inr (fresh, fs, h, n, before, come, within, learns, large) ↦ within
    ]

module _ {A : Type 0} (d : Inside A) (k : IsSoundDecoder d) (piece : List ℕ) (low : IsBytes piece) (used : ℕ) (rs : List (Record A))
    (follow : MessagesFollow A (seen_in d) piece used rs) where
  abbrev after : Position
  after = record d.position { room = d.position.room - used }

  pub within : used ≤ length piece
  within = follow_within (seen_in d) piece used rs follow

  -- where there are any, they are in the section
  at_start : (used ≡ 0) × (rs ≡ [])
      ⊎ (d.stage.section ≡ InSection) × (d.in_progress ≡ None) × (used + 6 ≤ d.position.room) × Learns d.env d.env (take used piece) rs
  at_start =
      elim follow [
        | inl n ↦ inl n
        | inr (fresh, fs, h, n, before, come, within, learns, large) ↦
            let (at, known, idle, left) =
            in_data_here (fields_inside d) d.history.items fs h n before come (omega (arith, large)) d.stage.section k.holds fresh in
            inr (at, idle, omega (arith, left, large), subst (λ e. Learns e e (take used piece) rs) (sym known) learns)
      ]

  pub enough : used ≤ d.position.room
  enough =
      elim at_start [
        | inl n ↦ omega (arith, n.0)
        | inr f ↦ omega (arith, f.2)
      ]

  pub learns_follow : Learns d.env d.env (take used piece) rs
  learns_follow =
      elim at_start [
        | inl n ↦ subst (λ m. Learns d.env d.env (take m piece) rs) (sym n.0) (subst (λ ss. Learns d.env d.env [] ss) (sym n.1) ((tt, refl), refl))
        | inr f ↦ f.3
      ]

  module _ (sum : List ℕ) (summed : sum ≡ d.sum ++ take used piece) where
    abbrev skipped_to : Fields A
    skipped_to = record (fields_inside d) { env = d.env; sum = sum; position = after }

    pub messages_skipped : Skipped skipped_to d.history.items piece used rs
    messages_skipped =
        elim at_start [
          | inl n ↦
              let same : d.position.room - used ≡ d.position.room = omega (arith, n.0) in
              skips_none (fields_inside d) d.history.items piece d.env sum after used rs k.are low n.0 n.1 refl
              (summed ∙ ap (λ m. d.sum ++ take m piece) n.0 ∙ append-nil d.sum) (λ i. record d.position { room = same i }) k.viable k.holds
          | inr f ↦
              skips (fields_inside d) d.history.items piece d.env sum after used rs k.are low f.0 within
              (skipped_after d.env d.env d.position d.in_progress piece used rs f.1 f.2 f.3) summed k.viable k.holds
        ]

    pub few_messages : d.count + used < 2 ^ 64
    few_messages = few_more k piece used low within messages_skipped.viable

    pub messages_kept : (n : Inside A) → n.history.items ≡ d.history.items ++ take used piece → fields_inside n ≡ skipped_to → n.count ≡ d.count + used
        → IsSoundDecoder n
    messages_kept n took same counted =
        sound_after k piece used low within messages_skipped.viable n took counted
        (subst (λ f. Holds f (d.history.items ++ take used piece)) (sym same) messages_skipped.holds)

    -- what is known stays
    pub known_there : d.stage.section ≡ InSection → (events : List (Event A)) → AreEvents d.history.items events
        → known_after (events ++ map item rs) ≡ d.env
    known_there at events are =
        let kept = subst (λ s. HoldsAt s skipped_to (d.history.items ++ take used piece)) at messages_skipped.holds in
        known_in_data kept.files kept.header kept.size kept.records kept.part (d.history.items ++ take used piece) kept.come (events ++ map item rs)
        (messages_skipped.told events are).1 ∙ sym kept.known

-- ---- the next message

module _ {A : Type 0} (d : Inside A) (k : IsSoundDecoder d) (piece : List ℕ) (used room : ℕ) (a : IsAhead A (seen_in d) piece used room) where
  abbrev low : IsBytes piece
  low = a.are

  abbrev mid : List ℕ
  mid = d.history.items ++ take used piece

  abbrev rest : List ℕ
  rest = drop used piece

  abbrev there : Fields A
  there = skipped_to d k piece low used a.records a.follow (d.sum ++ take used piece) refl

  there_skipped : Skipped there d.history.items piece used a.records
  there_skipped = messages_skipped d k piece low used a.records a.follow (d.sum ++ take used piece) refl

  -- One that is all in the piece is in the room.
  pub next_enough : refusal_of d.stage.section ≡ None → (size : ℕ) → MessageFollows A mid rest size → HasMessage d.env rest size × (size + 6 ≤ room)
  next_enough fresh size (fs, h, n, records, come, has, large) =
      let (at, here, idle, left) = follows_at there mid fs h n records come rest size has large d.stage.section there_skipped.holds fresh in
      let kept = subst (λ s. HoldsAt s (fields_inside d) d.history.items) at k.holds in
      let all = kept.size - length (records_bytes empty_environment kept.records) in
      let no_part = (idle_between_records d.env all kept.part d.position d.in_progress kept.in_record).0 idle in
      let come_here = subst (λ p. HasCome kept.files (at_data kept.header kept.size kept.records p) d.history.items) no_part kept.come in
      let ahead = a.room_is.left fresh kept.files kept.header kept.size kept.records come_here in
      (here, omega (arith, left, ahead, (records_in_progress d.env all kept.part d.position d.in_progress kept.in_record).2, ap length no_part))

  module _ (size : ℕ) (some : 0 < size) (fits : size ≤ length rest) (large : size + 6 ≤ room) (v : Values A)
      (learns : Learns d.env d.env (take size rest) (Message v ∷ [])) where
    here : (refusal_of d.stage.section ≡ None) × (fs : List (FitFile A)) × (h : FileHeader) × (n : ℕ) × (before : List (Record A))
        × HasCome fs (at_data h n before []) d.history.items
    here = a.room_is.here (omega (arith, large))

    left : room + used ≡ here.3 - length (records_bytes empty_environment here.4)
    left = a.room_is.left here.0 here.1 here.2 here.3 here.4 here.5

    stands : (d.stage.section ≡ InSection) × (d.env ≡ learn_all empty_environment here.4) × (d.in_progress ≡ None)
        × (d.position.room ≡ here.3 - length (records_bytes empty_environment here.4))
    stands = in_data_here (fields_inside d) d.history.items here.1 here.2 here.3 here.4 here.5 (omega (arith, left, large)) d.stage.section k.holds here.0

    more_within : used + size ≤ length piece
    more_within = omega (arith, fits, length-drop used piece, follow_within (seen_in d) piece used a.records a.follow)

    one : IsRecord d.env (Message v) (take size rest)
    one = (learns.0.0.0, learns.0.1 ∙ append-nil (record_bytes d.env (Message v)))

    pub next_follows : (records : List (Record A)) → MessagesFollow A (seen_in d) piece used records
        → MessagesFollow A (seen_in d) piece (used + size) (records ++ Message v ∷ [])
    next_follows records follow =
        let all : Learns d.env d.env (take (used + size) piece) (records ++ Message v ∷ []) =
        subst (λ y. Learns d.env d.env y (records ++ Message v ∷ [])) (sym (take-add used size piece))
        (learns_more d.env d.env d.env (take used piece) (take size rest) records (Message v ∷ []) (learns_follow d k piece low used records follow) learns) in
        inr (
          here.0,
          here.1,
          here.2,
          here.3,
          here.4,
          here.5,
          more_within,
          subst (λ e. Learns e e (take (used + size) piece) (records ++ Message v ∷ [])) stands.1 all,
          omega (arith, left, large),
        )

    pub next_is : (records : List (Record A)) → MessagesFollow A (seen_in d) piece used records → (events : List (Event A))
        → AreEvents d.history.items events → IsRecord (known_after (events ++ map item records)) (Message v) (take size rest)
    next_is records follow events are =
        subst (λ e. IsRecord e (Message v) (take size rest))
        (sym (known_there d k piece low used records follow (d.sum ++ take used piece) refl stands.0 events are)) one

    abbrev beyond : Position
    beyond = record there.position { room = there.position.room - size }

    skips_there : SkipsInSection d.env there.position d.in_progress d.env beyond rest size (Message v ∷ [])
    skips_there = skipped_after d.env d.env there.position d.in_progress rest size (Message v ∷ []) stands.2 (omega (arith, stands.3, left, large)) learns

    are_mid : IsBytes mid
    are_mid = IsBytes-append d.history.items (take used piece) k.are (IsBytes-take used piece low)

    -- With its last byte an event is complete.
    pub next_completes : MayLackMemoryIn A IsAny d.history.items piece
    next_completes =
        let low_rest = IsBytes-drop used piece low in
        let sum : List ℕ = there.sum ++ take size rest in
        let all = skips there mid rest d.env sum beyond size (Message v ∷ []) are_mid low_rest stands.0 fits skips_there refl there_skipped.viable
        there_skipped.holds in
        let least = message_least there mid rest d.env sum beyond size (Message v ∷ []) are_mid low_rest v stands.0 fits skips_there there_skipped.holds some in
        lacks_in_rest IsAny d.history.items piece mid rest
        (append_assoc d.history.items (take used piece) rest ∙ ap (λ l. d.history.items ++ l) (take-append-drop used piece))
        (omega (arith, length-append d.history.items (take used piece)))
        (lacks_for_event IsAny mid rest size (item (Message v)) tt some fits all.viable least)

  pub next_ahead : (size : ℕ) → size ≤ length rest
      → (0 < size → (size + 6 ≤ room) × (v : Values A) × Learns d.env d.env (take size rest) (Message v ∷ []))
      → IsAhead A (seen_in d) piece (used + size) (room - size)
  next_ahead zero fits found =
      let same : used ≡ used + 0 = omega arith in
      let left : room ≡ room - 0 = omega arith in
      subst (λ m. IsAhead A (seen_in d) piece m (room - 0)) same (subst (IsAhead A (seen_in d) piece used) left a)
  next_ahead (suc j) fits found =
      let (large, v, learns) = found (omega arith) in
      record {
        are = a.are;
        records = a.records ++ Message v ∷ [];
        follow = next_follows (suc j) (omega arith) fits large v learns a.records a.follow;
        room_is = room_more (seen_in d) used room (suc j) (omega (arith, large)) a.room_is;
      }

-- ---- what a caller sees

-- of messages that are skipped
module _ {A : Type 0} (d : Inside A) (old : Seen) (seen : seen_in d ≡ old) (piece : List ℕ) (used : ℕ) where
  pub messages_seen : (rs : List (Record A)) × MessagesFollow A old piece used rs → (rs : List (Record A)) × MessagesFollow A (seen_in d) piece used rs
  messages_seen follow = subst (λ o. (rs : List (Record A)) × MessagesFollow A o piece used rs) (sym seen) follow

  pub messages_told : IsSoundDecoder d → IsBytes piece → (bytes : List ℕ) → bytes ≡ d.history.items ++ take used piece → (events : List (Event A))
      (rs : List (Record A)) → AreEvents old.bytes events → MessagesFollow A old piece used rs → AreEvents bytes (events ++ map item rs)
  messages_told k low bytes took events rs are follow =
      let here = subst (λ o. MessagesFollow A o piece used rs) (sym seen) follow in
      let told = (messages_skipped d k piece low used rs here (d.sum ++ take used piece) refl).told events
      (subst (λ (o : Seen). AreEvents o.bytes events) (sym seen) are) in
      subst (λ b. AreEvents b (events ++ map item rs)) (sym took) told.1

-- of the next message, in what is left of the piece
module _ {A : Type 0} (d : Inside A) (k : IsSoundDecoder d) (old : Seen) (seen : seen_in d ≡ old) (piece : List ℕ) (used room : ℕ)
    (ahead : IsAhead A old piece used room) (size : ℕ) (left : List ℕ) (is : left ≡ drop used piece) (fits : size ≤ length left)
    (found : 0 < size → (size + 6 ≤ room) × (v : Values A) × Learns d.env d.env (take size left) (Message v ∷ [])) where
  here_ahead : IsAhead A (seen_in d) piece used room
  here_ahead = subst (λ o. IsAhead A o piece used room) (sym seen) ahead

  fits_there : size ≤ length (drop used piece)
  fits_there = subst (λ l. size ≤ length l) is fits

  found_there : 0 < size → (size + 6 ≤ room) × (v : Values A) × Learns d.env d.env (take size (drop used piece)) (Message v ∷ [])
  found_there = subst (λ l. 0 < size → (size + 6 ≤ room) × (v : Values A) × Learns d.env d.env (take size l) (Message v ∷ [])) is found

  pub seen_within : used + size ≤ length piece
  seen_within = omega (arith, fits_there, length-drop used piece, follow_within old piece used ahead.records ahead.follow)

  pub seen_ahead : IsAhead A old piece (used + size) (room - size)
  seen_ahead = subst (λ o. IsAhead A o piece (used + size) (room - size)) seen (next_ahead d k piece used room here_ahead size fits_there found_there)

  pub seen_message : 0 < size → NextMessage A (record { fed = old; piece = piece; used = used }) size
  seen_message some =
      let (large, v, learns) = found_there some in
      subst (λ o. NextMessage A (record { fed = o; piece = piece; used = used }) size) seen (
        v,
        λ records follow. (
          next_follows d k piece used room here_ahead size some fits_there large v learns records follow,
          next_is d k piece used room here_ahead size some fits_there large v learns records follow,
        ),
      )

  pub seen_completes : 0 < size → MayLackMemoryIn A IsAny old.bytes piece
  seen_completes some =
      let (large, v, learns) = found_there some in
      subst (λ (o : Seen). MayLackMemoryIn A IsAny o.bytes piece) seen
      (next_completes d k piece used room here_ahead size some fits_there large v learns)

  pub seen_whole : ((n : ℕ) → HasMessage d.env left n → n + 6 ≤ room → size ≡ n) → old.refusal ≡ None → (n : ℕ)
      → MessageFollows A (old.bytes ++ take used piece) (drop used piece) n → size ≡ n
  seen_whole all fresh n follows =
      let (has, large) = next_enough d k piece used room here_ahead (ap (λ (o : Seen). o.refusal) seen ∙ fresh) n
      (subst (λ (o : Seen). MessageFollows A (o.bytes ++ take used piece) (drop used piece) n) (sym seen) follows) in
      all n (subst (λ l. HasMessage d.env l n) (sym is) has) large
