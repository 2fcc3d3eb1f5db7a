-- Data messages of which the bytes are kept as they came.
use Rattle.fit_step.proofs.Common.{◌≡◌, ℕ, suc, ◌+◌, ◌-◌, ◌^◌, ◌<◌, ◌≤◌, inl, inr, false, List, [], ◌∷◌, ◌++◌, length, take, refl, sym, ap, ◌∙◌, subst, arith}
use Rattle.fit_step.proofs.Common.{append_assoc, append-nil, length-append, replicate, Option, Some, None, Ok, Err, IsOk, IsBytes}
use Rattle.fit_step.proofs.Common.{IsBytes-append, Defined, Record, Data, Values, Environment, defined_at, learn, has_reserved_bit}
use Rattle.fit_step.proofs.Common.{is_definition, local_type, message_size, IsRecord, NoRecord, FillFrom, StandsAfter}
use Rattle.fit_step.proofs.Common.{IsKeptMessage, IsInProgress, IsCutMessage, IsMissing}
use Rattle.fit_step.proofs.Common.{PassesInSection, Position, Begins, RecordHeader, new_message, State, Step, step, tests_of, state_at, Reason, record_reason}
use Rattle.fit_step.proofs.Common.{cond, ◌⊎◌, Learns, definition_reason, HeadsMessage, option_map}
use Rattle.fit_step.specs.Skipping.{PassesRecords}
use Rattle.fit_base.proofs.ByteLists.{IsBytes-zeros}
use Rattle.std.proofs.lemmas.List.{length-replicate}
use Rattle.std.proofs.Math.Seq.{take-length}
use Rattle.fit_record.proofs.FoundMessages.{data_read, data_record, only_message}
use Rattle.fit_step.proofs.RecordFronts.{before_record}
use Rattle.fit_step.proofs.RecordsInProgress.{begins_record, fill_nothing, idle_stands, kept_in_progress, none_come, all_left, record_fills}
use Rattle.fit_step.proofs.RecordsInProgress.{refused_after, room_after, sixteen_learned, sixteen_places, stands_somewhere, starts_where_none, wants_after}
use Rattle.fit_step.proofs.SkippedRecords.{large_fill, one_learned}

-- ---- the first bytes of a data message

pub front_fills : {A : Type 0} (e : Environment A) (room : ℕ) (a b : List ℕ) → IsBytes b → FillFrom e room (a ++ b) → FillFrom e room a
front_fills e room a b low (rs, rest, are, fit, spelled, total) =
    (rs, b ++ rest, IsBytes-append b rest low are, fit, spelled ∙ append_assoc a b rest, omega (arith, total, length-append a b, length-append b rest))

module _ {A : Type 0} (e : Environment A) (room header : ℕ) (body : List ℕ) (place : Defined A) (sixteen : length e.places ≡ 16)
    (are : IsBytes (header ∷ body)) (clean : has_reserved_bit header ≡ false) (kind : is_definition header ≡ false)
    (known : defined_at e (local_type header) ≡ Some place) where
  abbrev zeros : List ℕ
  zeros = replicate (message_size place - length body) 0

  abbrev filled : Values A
  filled = data_read place header (body ++ zeros)

  pub whole_message : length body ≡ message_size place → IsRecord e (Data (data_read place header body)) (header ∷ body)
  whole_message long = data_record e place header body are clean kind known long

  filled_up : length body ≤ message_size place → IsRecord e (Data filled) ((header ∷ body) ++ zeros)
  filled_up within =
      let count : length zeros ≡ message_size place - length body = length-replicate (message_size place - length body) 0 in
      data_record e place header (body ++ zeros) (IsBytes-append (header ∷ body) zeros are (IsBytes-zeros (message_size place - length body))) clean kind known
      (omega (arith, length-append body zeros, count, within))

  pub beginning_none : length body < message_size place → NoRecord e (header ∷ body)
  beginning_none less =
      let is = filled_up (omega (arith, less)) in
      let count : length zeros ≡ message_size place - length body = length-replicate (message_size place - length body) 0 in
      before_record e (header ∷ body) zeros (Data filled) is.0 (sym is.1) (omega (arith, count, less))

  pub beginning_fills : length body ≤ message_size place → 1 + message_size place + 6 ≤ room → FillFrom e room (header ∷ body)
  beginning_fills within large =
      let is = filled_up within in
      let all : List ℕ = (header ∷ body) ++ zeros in
      let count : length zeros ≡ message_size place - length body = length-replicate (message_size place - length body) 0 in
      let long : length all ≡ 1 + message_size place = omega (arith, length-append (header ∷ body) zeros, count, within) in
      let after : Environment A = learn e (Data filled) in
      front_fills e room (header ∷ body) zeros (IsBytes-zeros (message_size place - length body))
      (record_fills e room (Data filled) all is (omega (arith, long, large))
      (fill_nothing after (room - length all)
      (large_fill after (room - length all) (sixteen_learned e (Data filled) sixteen) (omega (arith, long, large)))))

-- ---- by the length that is known

pub sized : {A : Type 0} (o : Option (Defined A)) (size : ℕ) → Some size ≡ option_map message_size o
    → (p : Defined A) × (o ≡ Some p) × (size ≡ message_size p)
sized None size is = absurd (let none : Some size ≡ None = is in cc)
sized (Some p) size is = (p, refl, let both : Some size ≡ Some (message_size p) = is in cc)

pub is_cut : {A : Type 0} (e : Environment A) (bytes : List ℕ) (local size : ℕ) → HeadsMessage bytes local
    → Some size ≡ option_map message_size (defined_at e local)
    → length bytes < 1 + size → IsCutMessage e bytes (1 + size)
is_cut e bytes local size (b, rest, begins, clean, kind, same) is short =
    let (p, known, long) = sized (defined_at e local) size is in
    record {
      header = b;
      body = rest;
      begins = begins;
      clean = clean;
      kind = kind;
      place = p;
      known = ap (defined_at e) (sym same) ∙ known;
      long = ap (λ n. 1 + n) long;
      short = short;
    }

pub is_missing : {A : Type 0} (e : Environment A) (p : Position) (o : Option (Record A)) (v : Values A) (size missing : ℕ) → p.phase ≡ RecordHeader
    → o ≡ Some (Data v) → Some size ≡ option_map message_size (defined_at e v.local) → 1 + size ≤ 8 → length p.partial + missing ≡ 1 + size → 0 < missing
    → missing + 6 ≤ p.room → IsMissing e p o missing
is_missing e p o v size missing header is told short all some large =
    let (place, known, long) = sized (defined_at e v.local) size told in
    record {
      phase = header;
      message = v;
      is = is;
      place = place;
      known = known;
      all = omega (arith, all, long);
      some = some;
      short = omega (arith, short, long);
      large = large;
    }

-- ---- the first piece of one

pub first_passed : {A : Type 0} (e : Environment A) (p q : Position) (piece : List ℕ) (size : ℕ) (o after : Option (Record A)) → IsBytes piece
    → (cut : IsCutMessage e piece size) → size + 6 ≤ p.room → p.room < 2 ^ 32 → o ≡ None → q ≡ record p { room = p.room - length piece; partial = piece }
    → after ≡ Some (Data (new_message cut.header [] [])) → PassesInSection e p o e q after (take (length piece) piece) []
first_passed {A} e p q piece size o after low cut large limit idle is made room bytes h =
    let none : bytes ≡ [] = none_come e room bytes p o h idle in
    let all : p.room ≡ room = all_left e room bytes p o h idle in
    let sixteen = sixteen_places e room bytes p o h in
    let starts = starts_where_none e room bytes (state_at p o) (idle_stands e room bytes p o h idle) none in
    let are : IsBytes (cut.header ∷ cut.body) = subst IsBytes cut.begins low in
    let short = cut.short in
    let long : length piece ≡ 1 + length cut.body = ap length cut.begins ∙ (let one : suc (length cut.body) ≡ 1 + length cut.body = omega arith in one) in
    let less : length cut.body < message_size cut.place = omega (arith, long, short, cut.long) in
    let left : room ≡ room - 0 = omega arith in
    let kept : IsKeptMessage e room piece q after = record {
      sixteen = sixteen;
      are_bytes = low;
      total = omega (arith, ap (λ (r : Position). r.room) is, all, short, large);
      limit = omega (arith, all, limit);
      header = cut.header;
      body = cut.body;
      begins = cut.begins;
      clean = cut.clean;
      kind = cut.kind;
      phase = ap (λ (r : Position). r.phase) is ∙ ap (λ (s : State A). s.phase) starts;
      partial = ap (λ (r : Position). r.partial) is;
      message = made;
      none = subst (NoRecord e) (sym cut.begins) (beginning_none e room cut.header cut.body cut.place sixteen are cut.clean cut.kind cut.known less);
      fills = subst (FillFrom e room) (sym cut.begins)
          (beginning_fills e room cut.header cut.body cut.place sixteen are cut.clean cut.kind cut.known (omega (arith, less))
          (omega (arith, cut.long, large, all)));
    } in (
      [],
      piece,
      ap (λ b. b ++ take (length piece) piece) none ∙ take-length piece,
      inl refl,
      ((tt, refl), refl),
      subst (λ m. IsInProgress e m piece q after) left (inr kept),
    )

-- ---- more of it

module _ {A : Type 0} (e : Environment A) (p : Position) (o : Option (Record A)) (missing : ℕ) (m : IsMissing e p o missing) (front : List ℕ)
    (low : IsBytes front) (room : ℕ) (bytes : List ℕ) (h : IsInProgress e room bytes p o) where
  some_message : o ≡ None → ⊥
  some_message idle = let both : Some (Data m.message) ≡ None = sym m.is ∙ idle in cc

  kept : IsKeptMessage e room bytes p o
  kept = kept_in_progress e room bytes p o h m.phase some_message

  pub kept_bytes : p.partial ≡ bytes
  kept_bytes = kept.partial

  same_local : m.message.local ≡ local_type kept.header
  same_local =
      let first : Values A = new_message kept.header [] [] in
      let both : Some (Data m.message) ≡ Some (Data first) = sym m.is ∙ kept.message in
      let one : m.message ≡ first = cc in
      ap (λ (v : Values A). v.local) one

  known : defined_at e (local_type kept.header) ≡ Some m.place
  known = ap (defined_at e) (sym same_local) ∙ m.known

  long : length bytes ≡ 1 + length kept.body
  long = ap length kept.begins ∙ (let one : suc (length kept.body) ≡ 1 + length kept.body = omega arith in one)

  all_bytes : length kept.body + missing ≡ message_size m.place
  all_bytes = omega (arith, long, ap length kept.partial, m.all)

  room_for_all : 1 + message_size m.place + 6 ≤ room
  room_for_all = omega (arith, long, all_bytes, kept.total, m.large)

  joined : bytes ++ front ≡ kept.header ∷ (kept.body ++ front)
  joined = ap (λ b. b ++ front) kept.begins

  are : IsBytes (kept.header ∷ (kept.body ++ front))
  are = subst IsBytes joined (IsBytes-append bytes front kept.are_bytes low)

  -- some bytes, and not all that are missing
  pub more_kept : (q : Position) → length front < missing → q ≡ record p { room = p.room - length front; partial = p.partial ++ front }
      → IsKeptMessage e room (bytes ++ front) q o
  more_kept q less is =
      let short : length (kept.body ++ front) < message_size m.place = omega (arith, length-append kept.body front, all_bytes, less) in
      let large = m.large in
      record {
        sixteen = kept.sixteen;
        are_bytes = IsBytes-append bytes front kept.are_bytes low;
        total = omega (arith, ap (λ (r : Position). r.room) is, kept.total, length-append bytes front, less, large);
        limit = kept.limit;
        header = kept.header;
        body = kept.body ++ front;
        begins = joined;
        clean = kept.clean;
        kind = kept.kind;
        phase = ap (λ (r : Position). r.phase) is ∙ m.phase;
        partial = ap (λ (r : Position). r.partial) is ∙ ap (λ b. b ++ front) kept.partial;
        message = kept.message;
        none = subst (NoRecord e) (sym joined)
            (beginning_none e room kept.header (kept.body ++ front) m.place kept.sixteen are kept.clean kept.kind known short);
        fills = subst (FillFrom e room) (sym joined)
            (beginning_fills e room kept.header (kept.body ++ front) m.place kept.sixteen are kept.clean kept.kind known (omega (arith, short)) room_for_all);
      }

  -- all of them
  module _ (after : Environment A) (v : Values A) (n : ℕ) (count : length front ≡ missing) (within : n ≤ length (bytes ++ front))
      (spelled : IsRecord e (Data v) (take n (bytes ++ front))) (learned : learn e (Data v) ≡ after) where
    size : length (bytes ++ front) ≡ 1 + message_size m.place
    size = omega (arith, length-append bytes front, long, all_bytes, count)

    whole : IsRecord e (Data v) (bytes ++ front)
    whole =
        let message = data_read m.place kept.header (kept.body ++ front) in
        let is : IsRecord e (Data message) (bytes ++ front) =
        subst (IsRecord e (Data message)) (sym joined)
        (whole_message e room kept.header (kept.body ++ front) m.place kept.sixteen are kept.clean kept.kind known
        (omega (arith, length-append kept.body front, all_bytes, count))) in
        let one = only_message e v message n (bytes ++ front) (bytes ++ front) [] spelled within (sym (append-nil (bytes ++ front))) is in
        subst (IsRecord e (Data v)) (ap (λ k. take k (bytes ++ front)) one.1 ∙ take-length (bytes ++ front)) spelled

    pub all_taken : (q : Position) → Begins q → q.room ≡ p.room - missing
        → (whole : List ℕ) × (part : List ℕ) × (bytes ++ front ≡ whole ++ part) × ((Data v ∷ [] ≡ []) ⊎ (length whole + 6 ≤ room))
        × Learns e after whole (Data v ∷ []) × IsInProgress after (room - length whole) part q None
    all_taken q begins is =
        let sixteen : length after.places ≡ 16 = subst (λ (f : Environment A). length f.places ≡ 16) learned (sixteen_learned e (Data v) kept.sixteen) in
        let left : q.room ≡ room - length (bytes ++ front) = omega (arith, is, kept.total, length-append bytes front, count) in
        let large = m.large in (
          bytes ++ front,
          [],
          sym (append-nil (bytes ++ front)),
          inr (omega (arith, size, room_for_all)),
          one_learned e after v (bytes ++ front) whole learned,
          subst (λ n. IsInProgress after n [] q None) left (begins_record after q sixteen begins (large_fill after q.room sixteen (omega (arith, is, large)))),
        )

pub more_passed : {A : Type 0} (e : Environment A) (p q : Position) (o : Option (Record A)) (missing : ℕ) → IsMissing e p o missing → (front taken : List ℕ)
    → IsBytes front → length front < missing → taken ≡ front → q ≡ record p { room = p.room - length front; partial = p.partial ++ front }
    → PassesInSection e p o e q o taken []
more_passed e p q o missing m front taken low less same is room bytes h =
    let left : room ≡ room - 0 = omega arith in (
      [],
      bytes ++ front,
      ap (λ y. bytes ++ y) same,
      inl refl,
      ((tt, refl), refl),
      subst (λ n. IsInProgress e n (bytes ++ front) q o) left (inr (more_kept e p o missing m front low room bytes h q less is)),
    )

pub all_passed : {A : Type 0} (e after : Environment A) (p q : Position) (o : Option (Record A)) (missing : ℕ) → IsMissing e p o missing
    → (front taken joined : List ℕ) → IsBytes front → length front ≡ missing → taken ≡ front → joined ≡ p.partial ++ front → (v : Values A) (n : ℕ)
    → n ≤ length joined → IsRecord e (Data v) (take n joined) → learn e (Data v) ≡ after → Begins q → q.room ≡ p.room - missing
    → PassesInSection e p o after q None taken (Data v ∷ [])
all_passed e after p q o missing m front taken joined low count same joint v n within spelled learned begins left room bytes h =
    let all : joined ≡ bytes ++ front = joint ∙ ap (λ b. b ++ front) (kept_bytes e p o missing m front low room bytes h) in
    subst (λ y. PassesRecords e after room bytes q None y (Data v ∷ [])) (sym same)
    (all_taken e p o missing m front low room bytes h after v n count (omega (arith, within, ap length all))
    (subst (λ y. IsRecord e (Data v) (take n y)) all spelled) learned q begins left)

-- ---- a byte more of one

-- No byte after a record header is refused in a data message.
pub kept_goes_on : {A : Type 0} (e : Environment A) (room : ℕ) (bytes : List ℕ) (p : Position) (o : Option (Record A)) → IsKeptMessage e room bytes p o
    → (b : ℕ) → b < 256 → FillFrom e room (bytes ++ b ∷ [])
kept_goes_on {A} e room bytes p o k b low =
    let (u, h) = stands_somewhere e room bytes k.sixteen k.are_bytes k.none k.fills in go u h (step e (tests_of e) u b) refl
  where
    some : 0 < room
    some = let total = k.total in omega (arith, total, ap length k.begins)

    no_reason : (reason : Reason) → record_reason e bytes (room - length bytes) b ≡ Some reason → ⊥
    no_reason reason is =
        let first : record_reason e bytes (room - length bytes) b ≡ record_reason e (k.header ∷ k.body) (room - length bytes) b =
        ap (λ l. record_reason e l (room - length bytes) b) k.begins in
        let none : record_reason e (k.header ∷ k.body) (room - length bytes) b ≡ None =
        ap (λ c. cond c (definition_reason k.header k.body (room - length bytes) b) None) k.kind in
        let both : None ≡ Some reason = sym none ∙ sym first ∙ is in cc

    go : (u : State A) → StandsAfter e room bytes u → (made : Step A) → step e (tests_of e) u b ≡ made → FillFrom e room (bytes ++ b ∷ [])
    go u h (Ok next) is = wants_after e room bytes u h b low (subst IsOk (sym is) refl)
    go u h (Err reason) is = absurd (no_reason reason (refused_after e room bytes u h b low (room_after e room bytes u h some).0 reason is).0)
