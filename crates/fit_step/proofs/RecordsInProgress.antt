-- What has come of a record, and what a byte more makes of it.
use Rattle.fit_step.proofs.Common.{◌≡◌, inl, inr, ℕ, zero, ◌+◌, ◌-◌, ◌<◌, true, List, [], ◌∷◌, ◌++◌, length, refl, sym, ap, ◌∙◌, subst, arith, append_assoc}
use Rattle.fit_step.proofs.Common.{length-append, Some, None, Ok, Err, IsOk, append-nil, length-set, IsBytes, IsBytes-append, IsBytes-cons, IsBytes-front}
use Rattle.fit_step.proofs.Common.{IsBytes-back, IsBytes-none, IsBytes-tail, Reason, Record, Define, Data, Environment, learn, CanFill, IsRecord, record_bytes}
use Rattle.fit_step.proofs.Common.{records_bytes, can_fill_is, same_places, MessageDef, DefinitionPhase, Reserved, Position, goes_on, Continues, NoRecord}
use Rattle.fit_step.proofs.Common.{FillFrom, StandsAfter, IsInProgress, RecordsInProgress, IdleIsBetweenRecords, RefusedBytesHaveReasons, CanBecomeRecord}
use Rattle.fit_step.proofs.Common.{State, Step, start, step, least_rest, Ends, RecordPart, nothing, in_definition, definition_part, part_bytes, IsPart}
use Rattle.fit_step.proofs.Common.{state_of, state_at, Begins, record_reason, tests_of, StandsWithRoom, ◌≤◌, Option, PartFitsRoom, IsKeptMessage, Phase}
use Rattle.fit_step.proofs.Common.{RecordHeader, Definition, FieldItems, DevItems, in_fields, in_dev_fields, width_of, new_message, state}
use Rattle.fit_step.proofs.Rest.{takes_more, keeps, KeepsRoom}
use Rattle.fit_step.proofs.RecordFronts.{part_of_record}
use Rattle.fit_step.proofs.Runs.{one_more}
use Rattle.fit_step.proofs.Splits.{split}
use Rattle.fit_step.proofs.TakenAndRefusedBytes.{records_end, parts_are_tested, taken_bytes_go_on, taken_bytes_end, refused_bytes_end_all}

pub one_byte : (bytes : List ℕ) (b : ℕ) → IsBytes bytes → b < 256 → IsBytes (bytes ++ b ∷ [])
one_byte bytes b are low = IsBytes-append bytes (b ∷ []) are (IsBytes-cons b [] low IsBytes-none)

pub sixteen_learned : {A : Type 0} (e : Environment A) (r : Record A) → length e.places ≡ 16 → length (learn e r).places ≡ 16
sixteen_learned e (Define d) sixteen = length-set e.places d.local _ ∙ sixteen
sixteen_learned e (Data v) sixteen = ap length (same_places e v) ∙ sixteen

-- ---- records that fill a room

pub fill_nothing : {A : Type 0} (e : Environment A) (room : ℕ) → CanFill e room → FillFrom e room []
fill_nothing e room (rs, bytes, are, fit, size) = (rs, bytes, are, fit.0, sym fit.1, omega (arith, size))

-- one record, and others after it
pub record_fills : {A : Type 0} (e : Environment A) (room : ℕ) (r : Record A) (bytes : List ℕ) → IsRecord e r bytes → length bytes ≤ room
    → FillFrom (learn e r) (room - length bytes) [] → FillFrom e room bytes
record_fills e room r bytes is within (rs, rest, are, fit, spelled, size) =
    (r ∷ rs, rest, are, (is.0, fit), (λ i. sym is.1 i ++ spelled i), omega (arith, size, within))

continues_fill : {A : Type 0} (e : Environment A) (left : ℕ) (part : List ℕ) → Continues e part left → FillFrom e (left + length part) part
continues_fill e left part c =
    let (rs, after, are, fit, size) = c.filled in (
      c.whole ∷ rs,
      c.rest ++ after,
      IsBytes-append c.rest after c.are_bytes are,
      (c.fits, fit.0),
      ap (λ b. b ++ records_bytes (learn e c.whole) rs) c.spelled ∙ ap (λ b. (part ++ c.rest) ++ b) (sym fit.1) ∙ append_assoc part c.rest after,
      omega (arith, c.total, size, length-append c.rest after),
    )

-- the first of the records goes on after the bytes, where these are no whole record
pub fill_continues : {A : Type 0} (e : Environment A) (room : ℕ) (front : List ℕ) (b : ℕ) → NoRecord e front → FillFrom e room (front ++ b ∷ [])
    → Continues e (front ++ b ∷ []) (room - length (front ++ b ∷ []))
fill_continues {A} e room front b none ([], rest, are, fit, spelled, total) = absurd (impossible front spelled)
  where
    impossible : (front : List ℕ) → [] ≡ (front ++ b ∷ []) ++ rest → ⊥
    impossible [] h = cc
    impossible (x ∷ front) h = cc
fill_continues {A} e room front b none (r ∷ rs, rest, are, fit, spelled, total) =
    let after : List ℕ = records_bytes (learn e r) rs in
    let parts : front ++ (b ∷ rest) ≡ record_bytes e r ++ after = sym (append_assoc front (b ∷ []) rest) ∙ sym spelled in
    elim (split front (record_bytes e r) (b ∷ rest) after parts) [
      | inl s ↦ go s.more s.second s.beyond
      | inr s ↦ absurd (none r (s.next ∷ s.more) fit.0 s.first)
    ]
  where
    go : (more : List ℕ) → record_bytes e r ≡ front ++ more → b ∷ rest ≡ more ++ records_bytes (learn e r) rs
        → Continues e (front ++ b ∷ []) (room - length (front ++ b ∷ []))
    go [] second beyond = absurd (none r [] fit.0 (sym (append-nil front) ∙ sym second ∙ sym (append-nil (record_bytes e r))))
    go (c ∷ more) second beyond =
        let same : c ≡ b = cc in
        let tail : rest ≡ more ++ records_bytes (learn e r) rs = cc in
        let all : IsBytes (more ++ records_bytes (learn e r) rs) = subst IsBytes tail are in
        record {
          whole = r;
          rest = more;
          left = length (records_bytes (learn e r) rs);
          fits = fit.0;
          spelled = second ∙ ap (λ x. front ++ x ∷ more) same ∙ sym (one_more front b more);
          are_bytes = IsBytes-front more _ all;
          filled = (rs, records_bytes (learn e r) rs, IsBytes-back more _ all, (fit.1, refl), refl);
          total = omega (arith, total, ap length tail, length-append more (records_bytes (learn e r) rs));
        }

-- ---- where a record begins

pub starts_after : {A : Type 0} (e : Environment A) (room : ℕ) → length e.places ≡ 16 → CanFill e room → StandsAfter e room [] (start room)
starts_after e room sixteen fill = record {
  sixteen = sixteen;
  are_bytes = IsBytes-none;
  total = omega arith;
  part = nothing;
  is_part = tt;
  spelled = refl;
  is = refl;
  rest = omega arith;
  goes = (can_fill_is e room sixteen).1 fill;
}

pub begins_stands : {A : Type 0} (e : Environment A) (p : Position) → length e.places ≡ 16 → Begins p → CanFill e p.room
    → StandsAfter e p.room [] (state_at p None)
begins_stands {A} e p sixteen h fill =
    let is : start p.room ≡ state_at p None = λ i. record { phase = sym h.phase i; room = p.room; in_progress = None; partial = sym h.partial i } in
    subst (StandsAfter e p.room []) is (starts_after e p.room sixteen fill)

pub begins_record : {A : Type 0} (e : Environment A) (p : Position) → length e.places ≡ 16 → Begins p → CanFill e p.room → IsInProgress e p.room [] p None
begins_record e p sixteen h fill = inl (begins_stands e p sixteen h fill)

-- ---- a byte more

-- The bytes are those of this record, and the next one can begin.
pub record EndsWithRecord {A : Type 0} (e : Environment A) (room : ℕ) (bytes : List ℕ) (r : Record A) (t : State A) : Type 0 where
  pub is_record : IsRecord e r bytes
  pub within : length bytes ≤ room
  pub filled : CanFill (learn e r) (room - length bytes)
  pub starts : t ≡ start (room - length bytes)

module _ {A : Type 0} (e : Environment A) (room : ℕ) (bytes : List ℕ) (s : State A) (h : StandsAfter e room bytes s) where
  rest_of_part : least_rest e (state_of s.room h.part) ≤ s.room
  rest_of_part = subst (λ t. least_rest e t ≤ s.room) h.is h.rest

  part_goes : goes_on e (state_of s.room h.part) ≡ true
  part_goes = subst (λ t. goes_on e t ≡ true) h.is h.goes

  pub left_after : room - length bytes ≡ s.room
  left_after = omega (arith, h.total)

  pub none_after : NoRecord e bytes
  none_after = subst (NoRecord e) h.spelled (part_of_record e h.part h.is_part)

  pub fills_after : FillFrom e room bytes
  fills_after = go h.part h.spelled
      ((parts_are_tested e h.part s.room h.sixteen h.is_part (subst IsBytes (sym h.spelled) h.are_bytes) rest_of_part).0 part_goes)
    where
      begun : (f : RecordPart A) → part_bytes e f ≡ bytes → Continues e (part_bytes e f) s.room → FillFrom e room bytes
      begun f spelled c = subst (λ n. FillFrom e n bytes) h.total (continues_fill e s.room bytes (subst (λ b. Continues {A = A} e b s.room) spelled c))

      go : (f : RecordPart A) → part_bytes e f ≡ bytes → CanBecomeRecord e f s.room → FillFrom e room bytes
      go nothing spelled fill =
          let none : length bytes ≡ 0 = ap length (sym spelled) in
          let all : s.room ≡ room = omega (arith, h.total, none) in
          subst (FillFrom e room) spelled (fill_nothing e room (subst (CanFill e) all fill))
      go f spelled c = begun f spelled c

  -- there is room for the next byte, unless all of the room has been filled
  pub room_after : 0 < room → StandsWithRoom e s
  room_after some = (go h.part h.spelled h.is_part rest_of_part, record { part = h.part; is_part = h.is_part; is = h.is; within = h.rest })
    where
      go : (f : RecordPart A) → part_bytes e f ≡ bytes → IsPart e f → least_rest e (state_of s.room f) ≤ s.room → 0 < s.room
      go nothing spelled is less = let none : length bytes ≡ 0 = ap length (sym spelled) in omega (arith, none, h.total, some)
      go f spelled is less = omega (arith, less, takes_more e s.room f is tt)

  module _ (b : ℕ) (low : b < 256) where
    at_part : (made : Step A) → step e (tests_of e) s b ≡ made → step e (tests_of e) (state_of s.room h.part) b ≡ made
    at_part made is = subst (λ t. step e (tests_of e) t b ≡ made) h.is is

    pub goes_after : (t : State A) → step e (tests_of e) s b ≡ Ok (t, None) → StandsAfter e room (bytes ++ b ∷ []) t
    goes_after t made =
        let here = at_part (Ok (t, None)) made in
        let g = taken_bytes_go_on e h.part s.room b t h.sixteen h.is_part low rest_of_part part_goes here in
        let k : (t.room + 1 ≡ s.room) × (least_rest e t ≤ t.room) =
        subst (KeepsRoom e s.room) here (keeps e (tests_of e) s.room h.part b h.is_part rest_of_part) in
        let left : s.room - 1 ≡ t.room = omega (arith, k.0) in
        record {
          sixteen = h.sixteen;
          are_bytes = one_byte bytes b h.are_bytes low;
          total = omega (arith, h.total, k.0, length-append bytes (b ∷ []));
          part = g.0;
          is_part = g.1;
          spelled = g.2 ∙ ap (λ z. z ++ b ∷ []) h.spelled;
          is = g.3 ∙ ap (λ n. state_of n g.0) left;
          rest = k.1;
          goes = g.5;
        }

    pub ends_after : (t : State A) (r : Record A) → step e (tests_of e) s b ≡ Ok (t, Some r) → EndsWithRecord e room (bytes ++ b ∷ []) r t
    ends_after t r made =
        let here = at_part (Ok (t, Some r)) made in
        let g = taken_bytes_end e h.part s.room b t r h.sixteen h.is_part low rest_of_part part_goes here in
        let some : 0 < s.room = subst (KeepsRoom e s.room) here (keeps e (tests_of e) s.room h.part b h.is_part rest_of_part) in
        let left : s.room - 1 ≡ room - length (bytes ++ b ∷ []) = omega (arith, h.total, some, length-append bytes (b ∷ [])) in
        record {
          is_record = subst (λ z. IsRecord e r (z ++ b ∷ [])) h.spelled g.0;
          within = omega (arith, h.total, some, length-append bytes (b ∷ []));
          filled = subst (CanFill (learn e r)) left g.2;
          starts = g.1 ∙ ap start left;
        }

    -- a byte that is refused has the reason of its place, and no records fill the room with it
    pub refused_after : 0 < s.room → (reason : Reason) → step e (tests_of e) s b ≡ Err reason
        → (record_reason e bytes (room - length bytes) b ≡ Some reason) × (FillFrom e room (bytes ++ b ∷ []) → ⊥)
    refused_after some reason made =
        let law = refused_bytes_end_all e h.part s.room b reason h.sixteen h.is_part some low (at_part (Err reason) made) in
        let left : room - length (bytes ++ b ∷ []) ≡ s.room - 1 = omega (arith, h.total, length-append bytes (b ∷ [])) in (
          subst (λ z. record_reason e z (room - length bytes) b ≡ Some reason) h.spelled
              (subst (λ n. record_reason e (part_bytes e h.part) n b ≡ Some reason) (sym left_after) law.0),
          λ fill. law.1 (subst (λ z. Continues {A = A} e (z ++ b ∷ []) (s.room - 1)) (sym h.spelled)
              (subst (Continues {A = A} e (bytes ++ b ∷ [])) left (fill_continues e room bytes b none_after fill))),
        )

-- a byte that isn't refused has records that fill the room
pub wants_after : {A : Type 0} (e : Environment A) (room : ℕ) (bytes : List ℕ) (s : State A) → StandsAfter e room bytes s → (b : ℕ) → b < 256
    → IsOk (step e (tests_of e) s b) → FillFrom e room (bytes ++ b ∷ [])
wants_after {A} e room bytes s h b low ok = go (step e (tests_of e) s b) refl ok
  where
    go : (made : Step A) → step e (tests_of e) s b ≡ made → IsOk made → FillFrom e room (bytes ++ b ∷ [])
    go (Ok (t, None)) made ok = fills_after e room (bytes ++ b ∷ []) t (goes_after e room bytes s h b low t made)
    go (Ok (t, Some r)) made ok =
        let k = ends_after e room bytes s h b low t r made in
        record_fills e room r (bytes ++ b ∷ []) k.is_record k.within (fill_nothing (learn e r) (room - length (bytes ++ b ∷ [])) k.filled)
    go (Err reason) made ok = absurd cc

-- ---- where nothing has come

some_bytes : {A : Type 0} (k : DefinitionPhase) (d : MessageDef A) → definition_part k d ≡ [] → ⊥
some_bytes Reserved d is = cc
some_bytes k d is = cc

pub starts_where_none : {A : Type 0} (e : Environment A) (room : ℕ) (bytes : List ℕ) (s : State A) → StandsAfter e room bytes s → bytes ≡ []
    → s ≡ start s.room
starts_where_none {A} e room bytes s h none = go h.part h.is (h.spelled ∙ none)
  where
    go : (f : RecordPart A) → s ≡ state_of s.room f → part_bytes e f ≡ [] → s ≡ start s.room
    go nothing is empty = is
    go (in_definition k d) is empty = absurd (some_bytes k d empty)
    go f is empty = absurd cc

-- ---- whether the bytes are kept as they came

-- Where fields are made, a record header is awaited only where nothing is in progress.
pub header_idle : {A : Type 0} (phase : Phase) (room room_of : ℕ) (o : Option (Record A)) (partial : List ℕ) (f : RecordPart A)
    → state phase room o partial ≡ state_of room_of f → phase ≡ RecordHeader → o ≡ None
header_idle phase room room_of o partial nothing is header = ap (λ s. s.in_progress) is
header_idle {A} phase room room_of o partial (in_definition k d) is header =
    absurd (let other : RecordHeader ≡ Definition k = sym header ∙ ap (λ (s : State A). s.phase) is in cc)
header_idle {A} phase room room_of o partial (in_fields local offset t dev) is header =
    absurd (let other : RecordHeader ≡ FieldItems (length t.done) (width_of t) t.left = sym header ∙ ap (λ (s : State A). s.phase) is in cc)
header_idle {A} phase room room_of o partial (in_dev_fields local offset items t) is header =
    absurd (let other : RecordHeader ≡ DevItems (length t.done) (width_of t) t.left = sym header ∙ ap (λ (s : State A). s.phase) is in cc)

module _ {A : Type 0} (e : Environment A) (room : ℕ) (bytes : List ℕ) (p : Position) (o : Option (Record A)) where
  pub kept_some : IsKeptMessage e room bytes p o → o ≡ None → ⊥
  kept_some k idle = let both : Some (Data (new_message k.header [] [])) ≡ None = sym k.message ∙ idle in cc

  -- Fields are made where none are kept so,
  pub idle_stands : IsInProgress e room bytes p o → o ≡ None → StandsAfter e room bytes (state_at p o)
  idle_stands (inl h) idle = h
  idle_stands (inr k) idle = absurd (kept_some k idle)

  pub made_stands : IsInProgress e room bytes p o → (p.phase ≡ RecordHeader → ⊥) → StandsAfter e room bytes (state_at p o)
  made_stands (inl h) other = h
  made_stands (inr k) other = absurd (other k.phase)

  pub part_stands : IsInProgress e room bytes p o → PartFitsRoom e (state_at p o) → StandsAfter e room bytes (state_at p o)
  part_stands (inl h) fits = h
  part_stands (inr k) fits = absurd (kept_some k (header_idle p.phase p.room p.room o p.partial fits.part fits.is k.phase))

  -- and the bytes are kept where a record header is awaited inside a message.
  pub kept_in_progress : IsInProgress e room bytes p o → p.phase ≡ RecordHeader → (o ≡ None → ⊥) → IsKeptMessage e room bytes p o
  kept_in_progress (inl h) header some = absurd (some (header_idle p.phase p.room p.room o p.partial h.part h.is header))
  kept_in_progress (inr k) header some = k

  pub sixteen_places : IsInProgress e room bytes p o → length e.places ≡ 16
  sixteen_places (inl h) = h.sixteen
  sixteen_places (inr k) = k.sixteen

-- no record is in progress just where no byte has come
pub idle_between_records : {A : Type 0} → IdleIsBetweenRecords A
idle_between_records {A} e room bytes p in_progress (inl h) = (
  λ idle. go h.part h.is h.spelled idle,
  λ none. ap (λ (s : State A). s.in_progress) (starts_where_none e room bytes (state_at p in_progress) h none),
)
  where
    go : (f : RecordPart A) → state_at p in_progress ≡ state_of p.room f → part_bytes e f ≡ bytes → in_progress ≡ None → bytes ≡ []
    go nothing is spelled idle = sym spelled
    go f is spelled idle = absurd (let some = sym idle ∙ ap (λ (t : State A). t.in_progress) is in cc)
idle_between_records {A} e room bytes p in_progress (inr k) = (
  λ idle. absurd (kept_some e room bytes p in_progress k idle),
  λ none. absurd (let empty : k.header ∷ k.body ≡ [] = sym k.begins ∙ none in cc),
)

pub records_in_progress : {A : Type 0} → RecordsInProgress A
records_in_progress e room bytes p in_progress (inl h) =
    let s = state_at p in_progress in (none_after e room bytes s h, fills_after e room bytes s h, h.total)
records_in_progress e room bytes p in_progress (inr k) = (k.none, k.fills, k.total)

-- The next record begins after some records of which all bytes came at once.
module _ {A : Type 0} (e : Environment A) (room : ℕ) (bytes : List ℕ) (p : Position) (in_progress : Option (Record A))
    (h : IsInProgress e room bytes p in_progress) (idle : in_progress ≡ None) where
  pub none_come : bytes ≡ []
  none_come = (idle_between_records e room bytes p in_progress h).0 idle

  pub all_left : p.room ≡ room
  all_left = omega (arith, (records_in_progress e room bytes p in_progress h).2, ap length none_come)

  pub next_begins : (known : Environment A) (used : ℕ) → length known.places ≡ 16 → CanFill known (p.room - used)
      → IsInProgress known (room - used) [] (record p { room = p.room - used }) in_progress
  next_begins known used sixteen fills =
      let q : Position = record p { room = p.room - used } in
      let starts = starts_where_none e room bytes (state_at p in_progress) (idle_stands e room bytes p in_progress h idle) none_come in
      let begins : Begins q = record { phase = ap (λ (s : State A). s.phase) starts; partial = ap (λ (s : State A). s.partial) starts } in
      subst (λ o. IsInProgress known (room - used) [] q o) (sym idle)
      (subst (λ n. IsInProgress known (n - used) [] q None) all_left (begins_record known q sixteen begins fills))

-- ---- a byte that can't follow

module _ {A : Type 0} (e : Environment A) (room : ℕ) where
  -- on the way to a record's end
  stands_before : (front bytes : List ℕ) (m : ℕ) (more : List ℕ) (s t : State A) (r : Record A) → StandsAfter e room front s → IsBytes bytes
      → Ends e (tests_of e) s (bytes ++ m ∷ more) t r → (u : State A) × StandsAfter e room (front ++ bytes) u
  stands_before front [] m more s t r h low ends = (s, subst (λ z. StandsAfter e room z s) (sym (append-nil front)) h)
  stands_before front (b ∷ bytes) m more s t r h low (inl (none, made)) = absurd (no_end bytes none)
    where
      no_end : (bytes : List ℕ) → bytes ++ m ∷ more ≡ [] → ⊥
      no_end [] is = cc
      no_end (x ∷ bytes) is = cc
  stands_before front (b ∷ bytes) m more s t r h low (inr (u, made, ends)) =
      let (v, k) = stands_before (front ++ b ∷ []) bytes m more u t r (goes_after e room front s h b (low zero) u made) (IsBytes-tail b bytes low) ends in
      (v, subst (λ z. StandsAfter e room z v) (one_more front b bytes) k)

  pub room_filled : (bytes : List ℕ) → IsBytes bytes → FillFrom e room bytes → CanFill e room
  room_filled bytes are (rs, rest, rest_are, fit, spelled, total) =
      (rs, bytes ++ rest, IsBytes-append bytes rest are rest_are, (fit, sym spelled), omega (arith, total, length-append bytes rest))

  -- bytes that begin records that fill the room, and are no whole record, have come to a state
  pub stands_somewhere : (bytes : List ℕ) → length e.places ≡ 16 → IsBytes bytes → NoRecord e bytes → FillFrom e room bytes
      → (u : State A) × StandsAfter e room bytes u
  stands_somewhere [] sixteen are none fill = (start room, starts_after e room sixteen (room_filled [] are fill))
  stands_somewhere (b ∷ bytes) sixteen are none ([], rest, rest_are, fit, spelled, total) = absurd cc
  stands_somewhere (b ∷ bytes) sixteen are none (r ∷ rs, rest, rest_are, fit, spelled, total) =
      let after : List ℕ = records_bytes (learn e r) rs in
      elim (split (b ∷ bytes) (record_bytes e r) rest after (sym spelled)) [
        | inl s ↦ go s.more s.second s.beyond
        | inr s ↦ absurd (none r (s.next ∷ s.more) fit.0 s.first)
      ]
    where
      go : (more : List ℕ) → record_bytes e r ≡ (b ∷ bytes) ++ more → rest ≡ more ++ records_bytes (learn e r) rs
          → (u : State A) × StandsAfter e room (b ∷ bytes) u
      go [] second beyond = absurd (none r [] fit.0 (sym (append-nil (b ∷ bytes)) ∙ sym second ∙ sym (append-nil (record_bytes e r))))
      go (m ∷ more) second beyond =
          let after : List ℕ = records_bytes (learn e r) rs in
          let all : IsBytes ((m ∷ more) ++ after) = subst IsBytes beyond rest_are in
          let whole : IsBytes ((b ∷ bytes) ++ m ∷ more) = IsBytes-append (b ∷ bytes) (m ∷ more) are (IsBytes-front (m ∷ more) after all) in
          let size : length ((b ∷ bytes) ++ m ∷ more) + length after ≡ room =
          omega (arith, total, ap length beyond, length-append (m ∷ more) after, length-append (b ∷ bytes) (m ∷ more)) in
          let ends = records_end e r ((b ∷ bytes) ++ m ∷ more) (length after) sixteen (fit.0, sym second) whole
          (rs, after, IsBytes-back (m ∷ more) after all, (fit.1, refl), refl) in
          stands_before [] (b ∷ bytes) m more (start room) (start (length after)) r
          (starts_after e room sixteen (room_filled (b ∷ bytes) are (r ∷ rs, rest, rest_are, fit, spelled, total))) are
          (subst (λ n. Ends e (tests_of e) (start n) ((b ∷ bytes) ++ m ∷ more) (start (length after)) r) size ends)

pub refused_bytes_have_reasons : {A : Type 0} → RefusedBytesHaveReasons A
refused_bytes_have_reasons {A} e room bytes b sixteen some are low none fill ends =
    let (u, h) = stands_somewhere e room bytes sixteen are none fill in go u h (step e (tests_of e) u b) refl
  where
    go : (u : State A) → StandsAfter e room bytes u → (made : Step A) → step e (tests_of e) u b ≡ made
        → (reason : Reason) × (record_reason e bytes (room - length bytes) b ≡ Some reason)
    go u h (Ok next) is = absurd (ends (wants_after e room bytes u h b low (subst IsOk (sym is) refl)))
    go u h (Err reason) is = (reason, (refused_after e room bytes u h b low (room_after e room bytes u h some).0 reason is).0)
