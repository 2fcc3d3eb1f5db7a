-- What the skipping of records makes of the fields and of the events.
use Rattle.fit_decode.proofs.Common.{◌≡◌, cond, inl, inr, ℕ, ◌+◌, ◌-◌, ◌≤◌, List, [], ◌++◌, length, take, refl, sym, ap, ◌∙◌, subst, arith}
use Rattle.fit_decode.proofs.Common.{append_assoc, length-append, None, map, ◌^◌, ne_eqb, append-nil, length-take-le, IsBytes}
use Rattle.fit_decode.proofs.Common.{IsBytes-append, IsBytes-take, header_bytes, FitFile, Record, Environment, empty_environment, learn_all, chain_limit}
use Rattle.fit_decode.proofs.Common.{IsViable, AllFit, records_bytes, all_fit-append, records_bytes-append, learn_all-append, Position, FillFrom, IsInProgress}
use Rattle.fit_decode.proofs.Common.{records_in_progress, Inside, IsSoundDecoder, fields_inside, seen_in, refusal_of, InSection, ClosingSum, Latched}
use Rattle.fit_decode.proofs.Common.{at_data, HasCome, Event, item, AreEvents, Fields, InData, Holds, HoldsAt, section_of, goes_viable, data_starts, more_of}
use Rattle.fit_decode.proofs.Common.{items_told, all_told, partial_nothing, known_in_data, zero, suc, ◌<◌, ◌∷◌}
use Rattle.fit_decode.proofs.Common.{one_place, idle_between_records, Section, at_header, FileHeader, Least, IsRecord, record_bytes, item_least}
use Rattle.fit_decode.proofs.Common.{IsAny, MayLackMemoryIn, lacks_for_event}
use Rattle.std.specs.Prelude.{Option}
use Rattle.fit_record.specs.declared.message.Values.{Values}
use Rattle.fit_record.specs.declared.message.Record.TheVariants.{Values as Message}
use Rattle.fit_record.specs.Records.{AreRecords}
use Rattle.fit_chain.specs.Events.{known_after}
use Rattle.fit_step.specs.Skipping.{HasMessage, Learns, SkipsInSection}
use Rattle.fit_decode.specs.Answers.{Seen, MessageFollows}
use Rattle.fit_decode.specs.declared.section.Section.TheVariants.{Header}
use Rattle.fit_decode.specs.inner.Skips.{Skipped}
use Rattle.fit_decode.proofs.Sections.{begins_records}
use Rattle.fit_decode.proofs.Feeding.{few_more, sound_after}

-- ---- records after records

module _ {A : Type 0} (fs : List (FitFile A)) (h : FileHeader) (n : ℕ) (records rs : List (Record A)) (bytes y : List ℕ)
    (here : HasCome fs (at_data h n records []) bytes) where
  abbrev known : Environment A
  known = learn_all empty_environment records

  abbrev taken : ℕ
  taken = length (records_bytes empty_environment records)

  module _ (fits : AllFit known rs) (spelled : y ≡ records_bytes known rs) (within : length y ≤ n - taken) where
    all_bytes : records_bytes empty_environment (records ++ rs) ≡ records_bytes empty_environment records ++ y
    all_bytes = records_bytes-append empty_environment records rs ∙ ap (λ b. records_bytes empty_environment records ++ b) (sym spelled)

    pub total : length (records_bytes empty_environment (records ++ rs)) ≡ taken + length y
    total = ap length all_bytes ∙ length-append (records_bytes empty_environment records) y

    pub records_come : HasCome fs (at_data h n (records ++ rs) []) (bytes ++ y)
    records_come =
        more_of fs (at_data h n records []) (at_data h n (records ++ rs) []) bytes y here (
          here.next.0,
          all_fit-append empty_environment records rs here.next.1 fits,
          omega (arith, total, within, here.next.2),
          partial_nothing (learn_all empty_environment (records ++ rs)) (n - length (records_bytes empty_environment (records ++ rs))),
        )
        (append-nil (header_bytes h n ++ records_bytes empty_environment (records ++ rs)) ∙ ap (λ b. header_bytes h n ++ b) all_bytes
        ∙ sym (append_assoc (header_bytes h n) (records_bytes empty_environment records) y)
        ∙ ap (λ b. b ++ y) (sym (append-nil (header_bytes h n ++ records_bytes empty_environment records))))

    pub records_told : (events : List (Event A)) → AreEvents bytes events → AreEvents (bytes ++ y) (events ++ map item rs)
    records_told =
        all_told fs fs (at_data h n records []) (at_data h n (records ++ rs) []) bytes (bytes ++ y) (map item rs) here records_come
        (items_told fs h n records rs [] [])

-- ---- the fields

module _ {A : Type 0} (d : Fields A) (bytes piece : List ℕ) (after : Environment A) (sum : List ℕ) (position : Position) (used : ℕ) (rs : List (Record A))
    (are : IsBytes bytes) (low : IsBytes piece) where
  abbrev now : Fields A
  now = record d { env = after; sum = sum; position = position }

  abbrev y : List ℕ
  y = take used piece

  module _ (k : InData d bytes) (within : used ≤ length piece) (summed : sum ≡ d.sum ++ take used piece) (in_section : d.stage.section ≡ InSection)
      (no_part : k.part ≡ []) (large : used + 6 ≤ k.size - length (records_bytes empty_environment k.records)) (learns : Learns d.env after y rs)
      (at : IsInProgress after (k.size - length (records_bytes empty_environment k.records) - used) [] position d.in_progress) where
    abbrev room : ℕ
    room = k.size - length (records_bytes empty_environment k.records)

    abbrev all : List (Record A)
    all = k.records ++ rs

    here : HasCome k.files (at_data k.header k.size k.records []) bytes
    here = subst (λ p. HasCome k.files (at_data k.header k.size k.records p) bytes) no_part k.come

    fits : AllFit (learn_all empty_environment k.records) rs
    fits = subst (λ e. AllFit e rs) k.known learns.0.0

    spelled : y ≡ records_bytes (learn_all empty_environment k.records) rs
    spelled = learns.0.1 ∙ ap (λ e. records_bytes e rs) k.known

    long : length y ≡ used
    long = length-take-le used piece within

    within_room : length y ≤ room
    within_room = omega (arith, long, large)

    left : k.size - length (records_bytes empty_environment all) ≡ room - used
    left = omega (arith, total k.files k.header k.size k.records rs bytes y here fits spelled within_room, long)

    learnt : after ≡ learn_all empty_environment all
    learnt = sym learns.1 ∙ ap (λ e. learn_all e rs) k.known ∙ sym (learn_all-append empty_environment k.records rs)

    fill : FillFrom (learn_all empty_environment all) (k.size - length (records_bytes empty_environment all)) []
    fill =
        subst (λ m. FillFrom (learn_all empty_environment all) m []) (sym left)
        (subst (λ e. FillFrom e (room - used) []) learnt (records_in_progress after (room - used) [] position d.in_progress at).1)

    all_come : HasCome k.files (at_data k.header k.size all []) (bytes ++ y)
    all_come = records_come k.files k.header k.size k.records rs bytes y here fits spelled within_room

    all_summed : sum ≡ header_bytes k.header k.size ++ records_bytes empty_environment all
    all_summed =
        summed ∙ ap (λ l. l ++ y) (k.summed ∙ ap (λ p. (header_bytes k.header k.size ++ records_bytes empty_environment k.records) ++ p) no_part
        ∙ append-nil (header_bytes k.header k.size ++ records_bytes empty_environment k.records))
        ∙ append_assoc (header_bytes k.header k.size) (records_bytes empty_environment k.records) y
        ∙ ap (λ b. header_bytes k.header k.size ++ b)
        (ap (λ b. records_bytes empty_environment k.records ++ b) spelled ∙ sym (records_bytes-append empty_environment k.records rs))

    here_after : IsInProgress after (k.size - length (records_bytes empty_environment all)) [] position d.in_progress
    here_after = subst (λ m. IsInProgress after m [] position d.in_progress) (sym left) at

    in_data : section_of (k.size - length (records_bytes empty_environment all)) ≡ InSection
    in_data = ap (λ c. cond c ClosingSum InSection)
        (ne_eqb (k.size - length (records_bytes empty_environment all)) 0 (λ none. omega (arith, none, left, large)))

    holds_after : Holds now (bytes ++ y)
    holds_after =
        subst (λ c. HoldsAt c now (bytes ++ y)) (in_data ∙ sym in_section)
        (begins_records k.files now (bytes ++ y) k.header k.size all all_come k.few k.counted k.whole k.fresh all_summed learnt here_after)

    viable_after : IsViable A chain_limit (bytes ++ y)
    viable_after =
        goes_viable chain_limit k.files (at_data k.header k.size all []) (bytes ++ y) all_come (IsBytes-append bytes y are (IsBytes-take used piece low)) (
          let few = k.few in omega (arith, few),
          let few = k.few in
              omega (arith, few),
          data_starts (learn_all empty_environment all) (k.size - length (records_bytes empty_environment all)) _ fill,
        )

    skips_records : Skipped now bytes piece used rs
    skips_records = record {
      within = within;
      told = λ events are_told. (
        subst (λ e. AreRecords e rs y) (k.known ∙ sym (known_in_data k.files k.header k.size k.records [] bytes here events are_told)) learns.0,
        records_told k.files k.header k.size k.records rs bytes y here fits spelled within_room events are_told,
      );
      viable = viable_after;
      holds = holds_after;
    }

  pub skips_none : used ≡ 0 → rs ≡ [] → after ≡ d.env → sum ≡ d.sum → position ≡ d.position → IsViable A chain_limit bytes → Holds d bytes
      → Skipped now bytes piece used rs
  skips_none none no_records learnt same there viable holds =
      let nothing : [] ≡ y = ap (λ n. take n piece) (sym none) in
      let stay : bytes ≡ bytes ++ y = sym (append-nil bytes) ∙ ap (λ b. bytes ++ b) nothing in
      let fields : d ≡ now = λ i. record d { env = sym learnt i; sum = sym same i; position = sym there i } in
      record {
        within = omega (arith, none);
        told = λ events are_told. subst (λ ss. AreRecords (known_after events) ss y × AreEvents (bytes ++ y) (events ++ map item ss)) (sym no_records)
            ((tt, sym nothing), subst (λ l. AreEvents l (events ++ [])) stay (subst (AreEvents bytes) (sym (append-nil events)) are_told));
        viable = subst (IsViable A chain_limit) stay viable;
        holds = subst (λ f. Holds f (bytes ++ y)) fields (subst (Holds d) stay holds);
      }

  pub skips : d.stage.section ≡ InSection → used ≤ length piece → SkipsInSection d.env d.position d.in_progress after position piece used rs
      → sum ≡ d.sum ++ take used piece → IsViable A chain_limit bytes → Holds d bytes → Skipped now bytes piece used rs
  skips at within skip summed viable holds =
      let k = subst (λ c. HoldsAt c d bytes) at holds in
      elim (skip (k.size - length (records_bytes empty_environment k.records)) k.part k.in_record) [
        | inl n ↦ skips_none n.0 n.1 n.2 (summed ∙ ap (λ m. d.sum ++ take m piece) n.0 ∙ append-nil d.sum) n.3 viable holds
        | inr m ↦ skips_records k within summed at m.0 m.1 m.2 m.3
      ]

  -- One message is told by no fewer bytes.
  pub message_least : (v : Values A) → d.stage.section ≡ InSection → used ≤ length piece
      → SkipsInSection d.env d.position d.in_progress after position piece used (Message v ∷ []) → Holds d bytes → 0 < used
      → Least A bytes piece used (item (Message v))
  message_least v at within skip holds some =
      let k = subst (λ c. HoldsAt c d bytes) at holds in
      elim (skip (k.size - length (records_bytes empty_environment k.records)) k.part k.in_record) [
        | inl n ↦ absurd (omega (arith, n.0, some))
        | inr m ↦
            let whole : k.part ++ take used piece ≡ take used piece = ap (λ p. p ++ take used piece) m.0 in
            let own : IsRecord d.env (Message v) (take used piece) = (m.2.0.0.0, m.2.0.1 ∙ append-nil (record_bytes d.env (Message v))) in
            item_least bytes piece (record {
              files = k.files;
              header = k.header;
              size = k.size;
              records = k.records;
              part = k.part;
              come = k.come;
              few = k.few;
              some = k.some;
            }) are low used (Message v) within
            (subst (λ e. IsRecord e (Message v) (k.part ++ take used piece)) k.known (subst (IsRecord d.env (Message v)) (sym whole) own))
            (omega (arith, m.1, ap length whole, length-take-le used piece within))
      ]

-- ---- what a caller of a decoder sees

module _ {A : Type 0} (d : Inside A) (k : IsSoundDecoder d) (at : d.stage.section ≡ InSection) (piece : List ℕ) (after : Environment A) (sum : List ℕ)
    (position : Position) (used : ℕ) (records : List (Record A)) (low : IsBytes piece) (within : used ≤ length piece)
    (skip : SkipsInSection d.env d.position d.in_progress after position piece used records) (summed : sum ≡ d.sum ++ take used piece) where
  abbrev beyond : Fields A
  beyond = record (fields_inside d) { env = after; sum = sum; position = position }

  skipped : Skipped beyond d.history.items piece used records
  skipped = skips (fields_inside d) d.history.items piece after sum position used records k.are low at within skip summed k.viable k.holds

  pub few_skipped : d.count + used < 2 ^ 64
  few_skipped = few_more k piece used low within skipped.viable

  pub skipped_kept : (n : Inside A) → n.history.items ≡ d.history.items ++ take used piece → fields_inside n ≡ beyond → n.count ≡ d.count + used
      → IsSoundDecoder n
  skipped_kept n took same counted = sound_after k piece used low within skipped.viable n took counted
      (subst (λ f. Holds f (d.history.items ++ take used piece)) (sym same) skipped.holds)

  pub records_skipped : (old : Seen) → seen_in d ≡ old → (bytes : List ℕ) → bytes ≡ d.history.items ++ take used piece
      → (events : List (Event A)) → AreEvents old.bytes events
      → AreRecords (known_after events) records (take used piece) × AreEvents bytes (events ++ map item records)
  records_skipped old seen bytes took events are_told =
      let told = skipped.told events (subst (λ b. AreEvents b events) (sym (ap (λ (o : Seen). o.bytes) seen)) are_told) in
      (told.0, subst (λ b. AreEvents b (events ++ map item records)) (sym took) told.1)

-- with the last byte of a message an event is complete
pub message_completes : {A : Type 0} (d : Inside A) (k : IsSoundDecoder d) → d.stage.section ≡ InSection → (piece : List ℕ)
    (after : Environment A) (position : Position) (used : ℕ) (v : Values A) → IsBytes piece → used ≤ length piece
    → SkipsInSection d.env d.position d.in_progress after position piece used (Message v ∷ [])
    → (old : Seen) → seen_in d ≡ old → 0 < used → MayLackMemoryIn A IsAny old.bytes piece
message_completes {A} d k at piece after position used v low within skip old seen some =
    let sum : List ℕ = d.sum ++ take used piece in
    let all = skips (fields_inside d) d.history.items piece after sum position used (Message v ∷ []) k.are low at within skip refl k.viable k.holds in
    let least = message_least (fields_inside d) d.history.items piece after sum position used (Message v ∷ []) k.are low v at within skip k.holds some in
    subst (λ b. MayLackMemoryIn A IsAny b piece) (ap (λ (o : Seen). o.bytes) seen)
    (lacks_for_event IsAny d.history.items piece used (item (Message v)) tt some within all.viable least)

-- one message at most is skipped
pub message_skipped : {A : Type 0} (e after : Environment A) (p q : Position) (idle : Option (Record A)) (piece : List ℕ) (used : ℕ)
    → (used ≡ 0 → q ≡ p) → (used ≡ 0 → after ≡ e) → (0 < used → (v : Values A) × SkipsInSection e p idle after q piece used (Message v ∷ []))
    → (records : List (Record A)) × SkipsInSection e p idle after q piece used records
message_skipped e after p q idle piece zero none same some = ([], λ room bytes h. inl (refl, refl, same refl, none refl))
message_skipped e after p q idle piece (suc k) none same some = let m = some (omega arith) in (Message m.0 ∷ [], m.1)

-- ---- where whole records of a data section have come

module _ {A : Type 0} (d : Fields A) (bytes : List ℕ) (fs : List (FitFile A)) (h : FileHeader) (n : ℕ) (records : List (Record A))
    (come : HasCome fs (at_data h n records []) bytes) where
  pub data_here : (gs : List (FitFile A)) (g : FileHeader) (m : ℕ) (rs : List (Record A)) (part : List ℕ) → HasCome gs (at_data g m rs part) bytes
      → (rs ≡ records) × (part ≡ []) × (m - length (records_bytes empty_environment rs) ≡ n - length (records_bytes empty_environment records))
  data_here gs g m rs part there =
      let same = (one_place gs fs (at_data g m rs part) (at_data h n records []) bytes there come).1 in
      let whole : rs ≡ records = cc in
      let sizes : m ≡ n = cc in
      (whole, cc, λ i. sizes i - length (records_bytes empty_environment (whole i)))

  -- and more bytes of it are to come, the section is a data section
  pub in_data_here : 0 < n - length (records_bytes empty_environment records) → (s : Section) → HoldsAt s d bytes → refusal_of s ≡ None
      → (s ≡ InSection) × (d.env ≡ learn_all empty_environment records) × (d.in_progress ≡ None)
      × (d.position.room ≡ n - length (records_bytes empty_environment records))
  in_data_here some (Latched reason) k fresh = absurd cc
  in_data_here some InSection k fresh =
      let (whole, no_part, left) = data_here k.files k.header k.size k.records k.part k.come in
      let room = k.size - length (records_bytes empty_environment k.records) in (
        refl,
        k.known ∙ ap (learn_all empty_environment) whole,
        (idle_between_records d.env room k.part d.position d.in_progress k.in_record).1 no_part,
        omega (arith, (records_in_progress d.env room k.part d.position d.in_progress k.in_record).2, ap length no_part, left),
      )
  in_data_here some ClosingSum k fresh = absurd (omega (arith, k.over, some, (data_here k.files k.header k.size k.records _ k.come).2))
  in_data_here some Header k fresh = let same = (one_place k.files fs (at_header d.sum) (at_data h n records []) bytes k.come come).1 in absurd cc

  -- A message that is all in the piece is in the room.
  pub follows_at : (piece : List ℕ) (size : ℕ) → HasMessage (learn_all empty_environment records) piece size
      → size + 6 ≤ n - length (records_bytes empty_environment records) → (s : Section) → HoldsAt s d bytes → refusal_of s ≡ None
      → (s ≡ InSection) × HasMessage d.env piece size × (d.in_progress ≡ None) × (size + 6 ≤ d.position.room)
  follows_at piece size has large s k fresh =
      let (at, known, idle, left) = in_data_here (omega (arith, large)) s k fresh in
      (at, subst (λ e. HasMessage e piece size) (sym known) has, idle, omega (arith, left, large))

pub message_follows : {A : Type 0} (d : Inside A) → IsSoundDecoder d → (old : Seen) → seen_in d ≡ old
    → old.refusal ≡ None → (piece : List ℕ) (size : ℕ) → MessageFollows A old.bytes piece size
    → (d.stage.section ≡ InSection) × HasMessage d.env piece size × (d.in_progress ≡ None) × (size + 6 ≤ d.position.room)
message_follows {A} d k old seen none piece size (fs, h, n, records, come, has, large) =
    follows_at (fields_inside d) d.history.items fs h n records
    (subst (HasCome fs (at_data h n records [])) (sym (ap (λ (o : Seen). o.bytes) seen)) come) piece size has large d.stage.section
    k.holds (ap (λ (o : Seen). o.refusal) seen ∙ none)

-- ---- what a caller sees

pub used_more : {A : Type 0} (d : Inside A) (seen : Seen) → seen_in d ≡ seen → (items used : List ℕ) → items ≡ d.history.items ++ used
    → ◌≡◌ {A = Seen} (record { bytes = items; refusal = refusal_of d.stage.section }) (record { bytes = seen.bytes ++ used; refusal = seen.refusal })
used_more d seen is items used noted =
    let longer : ◌≡◌ {A = Seen} (record { bytes = items; refusal = refusal_of d.stage.section })
    (record { bytes = d.history.items ++ used; refusal = refusal_of d.stage.section }) =
    λ i. record { bytes = noted i; refusal = refusal_of d.stage.section } in
    longer ∙ ap (λ (v : Seen). record { bytes = v.bytes ++ used; refusal = v.refusal }) is

pub used_none : (seen : Seen) → seen ≡ record { bytes = seen.bytes ++ []; refusal = seen.refusal }
used_none seen = λ i. record { bytes = sym (append-nil seen.bytes) i; refusal = seen.refusal }
