-- What isn't refused begins records that fill the room, and what is refused begins none.
use Rattle.fit_step.proofs.Common.{◌≡◌, inl, inr, ℕ, zero, suc, ◌+◌, ◌-◌, ◌*◌, ◌<◌, true, false, List, [], ◌∷◌, ◌++◌, length, refl, sym, ap, ◌∙◌, subst, lit<}
use Rattle.fit_step.proofs.Common.{arith, append_assoc, length-append, Some, Err, flat_map, both_ways, append-nil, length-set, IsBytes, items_bytes}
use Rattle.fit_step.proofs.Common.{IsBytes-tail, NoFit, MessageDef, Defined, Record, Define, Data, Environment, defined_at, dev_defs, learn, CanFill}
use Rattle.fit_step.proofs.Common.{is_definition, local_type, dev_field_bytes, layout, dev_layout, message_size, body_length, data_header, order_at}
use Rattle.fit_step.proofs.Common.{record_bytes, Fits, can_fill, can_complete, can_fill_after_data, can_fill_is, same_places, DefinitionPhase, FieldSize}
use Rattle.fit_step.proofs.Common.{DevCount, DevSize, Continues, PartsAreTested, RecordsEnd, TakenBytesGoOn, TakenBytesEnd, RefusedBytesEndAll, TakenBytesStand}
use Rattle.fit_step.proofs.Common.{State, start, step, least_rest, layout_at, dev_layout_at, fields_rest, dev_rest, Ends, RoomsFill, sizes, RecordPart, nothing}
use Rattle.fit_step.proofs.Common.{in_definition, in_fields, in_dev_fields, taken, part_bytes, dev_front, fields_front, definition_part, IsPart}
use Rattle.fit_step.proofs.Common.{IsDefinitionPart, AwaitsDev, state_of, Fails, tests_of, entries_complete, ◌≤◌, drop, length-data, length-items}
use Rattle.fit_step.proofs.Lengths.{taken_rest, message_sizes}
use Rattle.fit_step.proofs.HeaderSteps.{message_first, definition_first}
use Rattle.fit_step.proofs.MessageSteps.{fields_to_come, dev_to_come, dev_layout-known}
use Rattle.fit_step.proofs.OneByte.{outcome}
use Rattle.fit_step.proofs.Runs.{step_goes, step_ends, one_more, records_run_through, shut_out}
use Rattle.fit_step.proofs.Rest.{keeps, KeepsRoom}
use Rattle.fit_step.proofs.Fills.{no_fit_fails}
use Rattle.fit_step.proofs.RoomsStayFillable.{goes, GoesOn}
use Rattle.fit_step.proofs.Carried.{data_continues}
use Rattle.fit_step.proofs.UnfinishedDefinitions.{definition_continues, among_fields, among_dev_fields}
use Rattle.fit_step.proofs.Kept.{still_stands}

-- ---- what has come can go on just where the test says so

pub parts_are_tested : {A : Type 0} → PartsAreTested A
parts_are_tested e nothing room sixteen h are within = can_fill_is e room sixteen
parts_are_tested e (in_definition k d) room sixteen h are within = definition_continues e k d room sixteen h are
parts_are_tested e (in_fields local offset t dev) room sixteen (p, known, header, s, same) are within =
    let o = order_at e local in
    let part : List ℕ = flat_map (items_bytes o) (taken t) ++ t.partial in
    let rest : ℕ = t.left + fields_rest e (length t.done) local in
    let fields : sizes (drop (suc (length t.done)) (layout_at e local)) ≡ sizes t.to_come = ap sizes (fields_to_come e local p t known s) in
    let devs : sizes (dev_layout_at e local) ≡ sizes (dev_layout p) = ap sizes (dev_layout-known e local p known) in
    let size : message_size p ≡ length part + rest = omega (arith, message_sizes p, taken_rest o (layout p) t s, fields, devs) in
    data_continues e local offset part rest room sixteen header (IsBytes-tail (data_header local offset) part are) p known size within
parts_are_tested e (in_dev_fields local offset items t) room sixteen (p, known, header, shapes, s) are within =
    let o = order_at e local in
    let front : List ℕ = flat_map (items_bytes o) items in
    let here : List ℕ = flat_map (items_bytes o) (taken t) ++ t.partial in
    let rest : ℕ = t.left + dev_rest e (length t.done) local in
    let devs : sizes (drop (suc (length t.done)) (dev_layout_at e local)) ≡ sizes t.to_come = ap sizes (dev_to_come e local p t known s) in
    let whole : length front ≡ sizes (layout p) = length-items o (layout p) items shapes in
    let size : message_size p ≡ length (front ++ here) + rest =
    omega (arith, message_sizes p, taken_rest o (dev_layout p) t s, devs, whole, length-append front here) in
    data_continues e local offset (front ++ here) rest room sixteen header (IsBytes-tail (data_header local offset) (front ++ here) are) p known size within

-- ---- a byte that isn't refused

fill_learned : {A : Type 0} (e : Environment A) (r : Record A) (room : ℕ) → length e.places ≡ 16 → can_fill (learn e r) room ≡ true → CanFill (learn e r) room
fill_learned e (Define d) room sixteen h = (can_fill_is (learn e (Define d)) room (length-set e.places d.local _ ∙ sixteen)).0 h
fill_learned e (Data v) room sixteen h = (can_fill_is (learn e (Data v)) room (ap length (same_places e v) ∙ sixteen)).0 h

pub taken_bytes_go_on : {A : Type 0} → TakenBytesGoOn A
taken_bytes_go_on {A} e part room b t sixteen h low within on made =
    let g = step_goes e (tests_of e) room part b t h low made in
    let k : (t.room + 1 ≡ room) × (least_rest e t ≤ t.room) = subst (KeepsRoom e room) made (keeps e (tests_of e) room part b h within) in
    let left : t.room ≡ room - 1 = omega (arith, k.0) in
    (g.0, g.1, g.2, g.3, subst (λ n. least_rest e t ≤ n) left k.1, subst (GoesOn e) made (goes e sixteen room part b h within on))

pub taken_bytes_end : {A : Type 0} → TakenBytesEnd A
taken_bytes_end {A} e part room b t r sixteen h low within on made =
    let k = step_ends e (tests_of e) room part b t r h low made in
    let filled : can_fill (learn e r) t.room ≡ true = subst (GoesOn e) made (goes e sixteen room part b h within on) in
    ((k.0, sym k.1), k.2, fill_learned e r (room - 1) sixteen (subst (λ (s : State A). can_fill (learn e r) s.room ≡ true) k.2 filled))

pub taken_bytes_stand : {A : Type 0} → TakenBytesStand A
taken_bytes_stand e s t b low h made = still_stands e (tests_of e) b low s t h made

-- ---- a byte that is refused

-- a data message with this record header, after which the room can be filled
carried : {A : Type 0} (e : Environment A) (room b : ℕ) (p : Defined A) → length e.places ≡ 16 → 0 < room → is_definition b ≡ false
    → defined_at e (local_type b) ≡ Some p
    → (r : Record A) (rest : List ℕ) (left : ℕ) → Fits e r → record_bytes e r ≡ b ∷ rest → CanFill (learn e r) left → length rest + left ≡ room - 1
    → can_fill e (room - (1 + message_size p)) ≡ true
carried e room b p sixteen some kind known (Define d) rest left fits spelled fill total =
    absurd (both_ways (is_definition b) kind (definition_first d b rest fits spelled).bits.kind)
carried {A} e room b p sixteen some kind known (Data v) rest left fits spelled fill total =
    let m = message_first e v b rest fits spelled in
    let found : Some m.place ≡ Some p = sym m.known ∙ ap (defined_at e) (sym m.bits.type) ∙ known in
    let same : m.place ≡ p = cc in
    let size : length rest ≡ message_size p = ap length (sym m.tail) ∙ length-data (order_at e v.local) v m.place m.fits ∙ ap message_size same in
    let beyond : left ≡ room - (1 + message_size p) = omega (arith, size, total, some) in
    subst (λ n. can_fill e n ≡ true) beyond ((can_fill_after_data e v left sixteen).1 fill)

-- a size or a number of developer fields of a definition message that no record goes on with
module _ {A : Type 0} (e : Environment A) (room : ℕ) (d : MessageDef A) (b : ℕ) (sixteen : length e.places ≡ 16) (low : b < 256) where
  definition_ends : (k : DefinitionPhase) → IsDefinitionPart k d → Fails e (tests_of e) room (in_definition k d) b
      → Continues e (definition_part k d ++ b ∷ []) (room - 1) → ⊥
  definition_ends (FieldSize left number) h bad c =
      let law = among_fields e d d.dev left (1 + 3 * (left - 1)) (body_length d + b) (room - 1) (number ∷ b ∷ []) sixteen h refl h.dev (lit< tt)
      (omega (arith, h.some)) refl in
      both_ways (entries_complete e d.dev d.local (1 + 3 * (left - 1)) (body_length d + b) (room - 1)) bad
      (law.1 (subst (λ bytes. Continues e bytes (room - 1)) (append_assoc (fields_front d (length d.fields + left)) (number ∷ []) (b ∷ [])) c))
  definition_ends (DevSize left number) h bad c =
      let law = among_dev_fields e d left (1 + 3 * (left - 1)) (body_length d + b) (room - 1) (number ∷ b ∷ []) sixteen h.0 (lit< tt) (omega (arith, h.1)) refl
      in
      both_ways (can_complete e d.local (1 + 3 * (left - 1)) (body_length d + b) (room - 1)) bad
      (law.1 (subst (λ bytes. Continues e bytes (room - 1)) (append_assoc (dev_front d (length (dev_defs d.dev) + left)) (number ∷ []) (b ∷ [])) c))
  definition_ends DevCount h bad c =
      let w = h.0 in
      let none : length (dev_defs d.dev) ≡ 0 = ap (λ o. length (dev_defs o)) h.1 in
      let empty : length w.defs ≡ 0 = ap (λ o. length (dev_defs o)) (sym w.dev) ∙ none in
      let awaits : AwaitsDev d b = record { local = w.local; global = w.global; fields = w.fields; defs = w.defs; dev = w.dev; few = omega (arith, empty, low) }
      in
      let law = among_dev_fields e d b (3 * b) (body_length d) (room - 1) [] sixteen awaits (lit< tt) (omega arith) (omega arith) in
      let counted : dev_front d (length (dev_defs d.dev) + b) ++ [] ≡ fields_front d (length d.fields) ++ b ∷ [] =
      append-nil (dev_front d (length (dev_defs d.dev) + b))
      ∙ ap (λ n. dev_front d n) (let same : length (dev_defs d.dev) + b ≡ b = omega (arith, none) in same)
      ∙ ap (λ o. fields_front d (length d.fields) ++ b ∷ flat_map dev_field_bytes (dev_defs o)) h.1 in
      both_ways (can_complete e d.local (3 * b) (body_length d) (room - 1)) bad
      (law.1 (subst (λ bytes. Continues e bytes (room - 1)) (sym counted) c))
  definition_ends k h bad c = bad

-- after parts of which a test of rooms refuses the byte, no record fills the room
no_fit_ends : {A : Type 0} (e : Environment A) (room : ℕ) (f : RecordPart A) (b : ℕ) → length e.places ≡ 16 → IsPart e f → 0 < room → b < 256
    → step e (tests_of e) (state_of room f) b ≡ Err NoFit → Continues e (part_bytes e f ++ b ∷ []) (room - 1) → ⊥
no_fit_ends e room nothing b sixteen h some low refused c =
    let k = no_fit_fails e (tests_of e) room nothing b refused in
    both_ways (can_fill e (room - (1 + message_size k.1))) k.3
    (carried e room b k.1 sixteen some k.0 k.2 c.whole c.rest c.left c.fits c.spelled c.filled c.total)
no_fit_ends {A} e room (in_definition k d) b sixteen h some low refused c =
    definition_ends e room d b sixteen low k h (no_fit_fails e (tests_of e) room (in_definition k d) b refused) c
no_fit_ends e room f b sixteen h some low refused c = no_fit_fails e (tests_of e) room f b refused

pub refused_bytes_end_all : {A : Type 0} → RefusedBytesEndAll A
refused_bytes_end_all {A} e part room b reason sixteen h some low refused =
    elim (outcome e (tests_of e) room part b h low) [
      | inl moves ↦ elim moves [ inl g ↦ absurd (cc (refused, g.is)) | inr c ↦ absurd (cc (refused, c.is)) ]
      | inr stops ↦
          let same : stops.reason ≡ reason = cc (refused, stops.is) in (
            stops.because ∙ ap Some same,
            λ c. shut_out e room (part_bytes e part) b stops.reason c.whole c.rest stops.shut c.fits (c.spelled ∙ one_more (part_bytes e part) b c.rest)
                (let total = c.total in omega (arith, total, some)) (λ none. no_fit_ends e room part b sixteen h some low (stops.is ∙ ap Err none) c),
          )
    ]

-- ---- records that fill the room

fills_on : {A : Type 0} (e : Environment A) (r : Record A) (left : ℕ) → length e.places ≡ 16 → Fits e r → CanFill (learn e r) left
    → (bytes : List ℕ) (room : ℕ) (f : RecordPart A) → IsPart e f → IsBytes bytes → record_bytes e r ≡ part_bytes e f ++ bytes → length bytes + left ≡ room
    → RoomsFill e (tests_of e) (state_of room f) bytes
fills_on e r left sixteen fits fill [] room f h low is total = tt
fills_on {A} e r left sixteen fits fill (b ∷ bytes) room f h low is total =
    let more : record_bytes e r ≡ (part_bytes e f ++ b ∷ []) ++ bytes = is ∙ sym (one_more (part_bytes e f) b bytes) in
    let rest = IsBytes-tail b bytes low in (
      λ bad. no_fit_ends e room f b sixteen h (omega (arith, total)) (low zero) bad
          (record { whole = r; rest = bytes; left = left; fits = fits; spelled = more; are_bytes = rest; filled = fill; total = omega (arith, total) }),
      λ u made.
          let g = step_goes e (tests_of e) room f b u h (low zero) made in
          subst (λ (s : State A). RoomsFill e (tests_of e) s bytes) (sym g.3)
          (fills_on e r left sixteen fits fill bytes (room - 1) g.0 g.1 rest (more ∙ ap (λ z. z ++ bytes) (sym g.2)) (omega (arith, total))),
    )

pub records_end : {A : Type 0} → RecordsEnd A
records_end {A} e r bytes left sixteen h low fill =
    let room : ℕ = length bytes + left in
    let rest : room - length bytes ≡ left = omega arith in
    subst (λ n. Ends e (tests_of e) (start room) bytes (start n) r) rest
    (records_run_through e (tests_of e) room r bytes h low (omega arith) (fills_on e r left sixteen h.0 fill bytes room nothing tt low (sym h.1) refl))
