-- The blocks of data messages.
use Rattle.std.proofs.Common.{◌≡◌, ◌∙◌, ℕ, suc, ◌+◌, ◌≤◌, List, [], ◌∷◌, ◌++◌, Bool, true, ap, ap₂, refl, sym, arith, subst}
use Rattle.std.proofs.Common.{length, take, drop, get_or, append_assoc, eqb-true}
use Rattle.std.proofs.Math.Seq.{drop-append_seam}
use Rattle.std.proofs.lemmas.List.{drop-take, length-append, length-take-le, take-take}
use Rattle.std.proofs.lemmas.List.Folds.{list_all-map}
use Rattle.std.proofs.lemmas.List.Sums.{AllPass-from_list_all, sum_by-append}
use Rattle.std.proofs.lemmas.Option.{get_or_from_slice_get, slice_get_within}
use Rattle.std.specs.Global.{Global}
use Rattle.std.specs.Prelude.{◌==◌, IsSomeAnd, None, Option, Some, flat_map, option_map, slice_get, unwrap_or}
use Rattle.fit_base.specs.BaseTypes.{base_type}
use Rattle.fit_base.proofs.ByteLists.{IsBytes-take, IsBytes-drop}
use Rattle.fit_base.specs.Numbers.{IsBytes}
use Rattle.fit_base.specs.declared.number.Order.TheVariants.{Little}
use Rattle.fit_record.proofs.Gathering.{fields_front}
use Rattle.fit_record.proofs.OneRecord.{one_record}
use Rattle.fit_record.proofs.RecordLengths.{length-data}
use Rattle.fit_record.proofs.ReadMessages.{message_fits}
use Rattle.fit_record.specs.ReadMessages.{fields_from, values_from}
use Rattle.fit_record.specs.Environment.{Environment, defined_at}
use Rattle.fit_record.specs.Records.{DataFits, Fits, IsRecord, data_bytes, data_header, dev_layout, layout, message_size, order_at, sizes}
use Rattle.fit_record.specs.declared.message.Record.TheVariants.{Values as Data}
use Rattle.fit_record.specs.declared.environment.Defined.{Defined}
use Rattle.fit_record.specs.declared.message.Record.{Record}
use Rattle.fit_record.specs.declared.message.Values.{Values}
use Rattle.fit_record.specs.declared.definition.FieldDef.{FieldDef}
use Rattle.fit_profile.proofs.TakenMessages.{times_told}
use Rattle.fit_profile.specs.Looks.{known}
use Rattle.fit_profile.specs.Taken.{has_lone_fields}
use Rattle.fit_profile.specs.Told.{told}
use Rattle.fit_profile.specs.declared.told.Told.{Told}
use Rattle.fit_messages.specs.Blocks.{counts, flag, message_after, message_block, message_head, sized, slot, told_bits}
use Rattle.fit_messages.specs.declared.message.Head.{Head}
use Rattle.fit_messages.specs.inner.Heads.{IsHeadOf, TellsTimesAlone, head_bytes}
use Rattle.fit_messages.specs.inner.Sheets.{AreLone, slots_from}

-- room for a length and two parts are put after nothing
all_put : (room h f b0 b1 b2 : List ℕ) → b0 ≡ [] → b1 ≡ b0 ++ (room ++ h) → b2 ≡ b1 ++ f → b2 ≡ room ++ (h ++ f)
all_put room h f b0 b1 b2 none first second =
    second ∙ ap (λ b. b ++ f) (first ∙ ap (λ b. b ++ (room ++ h)) none) ∙ append_assoc room h f

pub two_put : (room h f b0 b1 b2 : List ℕ) → length room ≡ 4 → b0 ≡ [] → b1 ≡ b0 ++ (room ++ h) → b2 ≡ b1 ++ f → drop 4 b2 ≡ h ++ f
two_put room h f b0 b1 b2 long none first second =
    ap (drop 4) (all_put room h f b0 b1 b2 none first second) ∙ ap (λ k. drop k (room ++ (h ++ f))) (sym long) ∙ drop-append_seam room (h ++ f)

pub room_left : (room h f b0 b1 b2 : List ℕ) → length room ≡ 4 → b0 ≡ [] → b1 ≡ b0 ++ (room ++ h) → b2 ≡ b1 ++ f → 4 ≤ length b2
room_left room h f b0 b1 b2 long none first second =
    omega (arith, long, ap length (all_put room h f b0 b1 b2 none first second), length-append room (h ++ f))

-- the block of a message by the definition of its local message type
pub message_is : {A : Type 0} (before : List (Record A)) (file place number : ℕ) (v : Values A) (p : Defined A) → Some p ≡ defined_at (known before) v.local
    → message_block file place number v p.definition (told before v) ≡ message_after before file place number v
message_is before file place number v p known_ =
    ap (λ o. unwrap_or (option_map (λ (q : Defined _). message_block file place number v q.definition (told before v)) o) []) known_

-- the message is one of the definition of its local message type
pub data_fits : {A : Type 0} (e : Environment A) (v : Values A) (p : Defined A) → Fits e (Data v) → Some p ≡ defined_at e v.local → DataFits v p
data_fits e v p fits known_ = subst (λ o. IsSomeAnd o (DataFits v)) (sym known_) fits

-- ---- the message that bytes begin with

-- it is what its header says and what the bytes after that are by its definition
pub read_again : {A : Type 0} (e : Environment A) (p : Defined A) (v : Values A) (bytes : List ℕ) → defined_at e v.local ≡ Some p → IsBytes bytes
    → IsRecord e (Data v) bytes → (values_from v.local v.offset p.definition.order p (drop 1 bytes) ≡ v) × (length bytes ≡ 1 + message_size p)
read_again e p v bytes known_ are is =
    let o = p.definition.order in
    let body = drop 1 bytes in
    let w = values_from v.local v.offset o p body in
    let fits = data_fits e v p is.0 (sym known_) in
    let order : order_at e v.local ≡ o = ap (λ q. unwrap_or (option_map (λ (q : Defined _). q.definition.order) q) Little) known_ in
    let own : body ≡ data_bytes (order_at e v.local) v = ap (drop 1) is.1 in
    let long : length body ≡ message_size p = ap length own ∙ length-data (order_at e v.local) v p fits in
    let read = message_fits v.local v.offset o p body fits.header (IsBytes-drop 1 bytes are) long in
    let spelled : bytes ≡ data_header v.local v.offset ∷ data_bytes (order_at e v.local) w =
    is.1 ∙ ap (λ b. data_header v.local v.offset ∷ b) (sym own ∙ sym read.1 ∙ ap (λ q. data_bytes q w) (sym order)) in
    let again : IsRecord e (Data w) bytes = (subst (λ q. IsSomeAnd q (DataFits w)) (sym known_) read.0, spelled) in
    let one : Data w ≡ Data v = (one_record e (Data w) (Data v) bytes bytes [] [] again is refl).0 in
    let all : length bytes ≡ suc (length (data_bytes (order_at e v.local) v)) = ap length is.1 in
    (cc one, omega (arith, all, ap length own, long))

-- its items can be read from these, however many come after it
pub slots_are : (p : Defined Global) (local n : ℕ) (offset : Option ℕ) (bytes : List ℕ) → n ≡ message_size p
    → (let v = values_from local offset p.definition.order p (take n bytes) in slots_from p bytes ≡ flat_map slot v.fields ++ flat_map slot v.dev)
slots_are p local n offset bytes long =
    let o = p.definition.order in
    let k = sizes (layout p) in
    let m = sizes (dev_layout p) in
    let all : n ≡ k + m = long ∙ sum_by-append (λ (f : ℕ × ℕ). f.1) (layout p) (dev_layout p) in
    let front : take k (take n bytes) ≡ take k bytes = take-take k n bytes (omega (arith, all)) in
    let back : drop k (take n bytes) ≡ take m (drop k bytes) = ap (λ l. drop k (take l bytes)) all ∙ drop-take k m bytes in
    ap₂ (λ fields dev. flat_map slot fields ++ flat_map slot dev)
    (fields_front {A = Global} o (layout p) bytes ∙ ap (fields_from {A = Global} o (layout p)) (sym front))
    (fields_front {A = Global} o (dev_layout p) (drop k bytes) ∙ ap (fields_from {A = Global} o (dev_layout p)) (sym back))

-- ---- fields of one number

-- a field of a place
pub lone_at : (slots : List (ℕ × ℕ)) (k : ℕ) (f : ℕ × ℕ) → AreLone slots → slice_get slots k ≡ Some f → (base_type f.0).width ≡ f.1
lone_at slots k f lone at =
    subst (λ (g : ℕ × ℕ). (base_type g.0).width ≡ g.1) (get_or_from_slice_get slots k f f at) (lone k f (slice_get_within slots k f at))

-- those of a definition
pub lone_layout : {A : Type 0} (p : Defined A) → has_lone_fields p.definition ≡ true → AreLone (layout p)
lone_layout p lone k d within =
    let test : ℕ × ℕ → Bool = λ (f : ℕ × ℕ). (base_type f.0).width == f.1 in
    let slot_of : FieldDef → ℕ × ℕ = λ (f : FieldDef). (f.code, f.size) in
    let f = get_or (layout p) k d in
    eqb-true (base_type f.0).width f.1 (AllPass-from_list_all test (layout p) (list_all-map test slot_of p.definition.fields ∙ lone) k d within)

-- ---- heads

-- without amounts nothing is told but times
bits_alone : (t : Told) → (t.speed ≡ None) × (t.distance ≡ None) × (t.total_cycles ≡ None) × (t.accumulated_power ≡ None)
    → told_bits t ≡ flag 1 t.time + flag 2 t.header_time
bits_alone t none =
    let n = flag 1 t.time + flag 2 t.header_time in
    let same : n + 0 + 0 + 0 + 0 ≡ n = omega arith in
    (λ i. n + flag 4 (none.0 i) + flag 8 (none.1 i) + flag 16 (none.2 i) + flag 32 (none.3 i)) ∙ same

pub head_alone : (before : List (Record Global)) (v : Values Global) (p : Defined Global) (h : Head) → defined_at (known before) v.local ≡ Some p
    → IsHeadOf before v p h → TellsTimesAlone h
head_alone before v p h known_ is off =
    subst (λ t. told_bits t ≡ flag 1 t.time + flag 2 t.header_time) (sym is.told)
    (bits_alone (told before v) (times_told before v p known_ (sym is.counts ∙ off)))

pub head_is : (before : List (Record Global)) (v : Values Global) (p : Defined Global) (h : Head) → IsHeadOf before v p h
    → head_bytes h ≡ message_head h.place.file h.place.place h.number v.local v.offset (counts p.definition) (told before v)
head_is before v p h is =
    λ i. message_head h.place.file h.place.place h.number (is.local i) (is.offset i) (is.counts i) (is.told i)

-- the block of a message whose items are put
pub put_as_message : (before : List (Record Global)) (v : Values Global) (p : Defined Global) (h : Head) → defined_at (known before) v.local ≡ Some p
    → IsHeadOf before v p h
    → sized (head_bytes h ++ flat_map slot v.fields ++ flat_map slot v.dev) ≡ message_after before h.place.file h.place.place h.number v
put_as_message before v p h known_ is =
    ap (λ b. sized (b ++ flat_map slot v.fields ++ flat_map slot v.dev)) (head_is before v p h is)
    ∙ message_is before h.place.file h.place.place h.number v p (sym known_)

-- of a message whose items are read from its bytes and those after it
pub read_as_message : (before : List (Record Global)) (v : Values Global) (p : Defined Global) (h : Head) (piece : List ℕ) (size : ℕ)
    → defined_at (known before) v.local ≡ Some p → IsBytes piece → size ≤ length piece → IsRecord (known before) (Data v) (take size piece)
    → IsHeadOf before v p h → sized (head_bytes h ++ slots_from p (drop 1 piece)) ≡ message_after before h.place.file h.place.place h.number v
read_as_message before v p h piece size known_ are within is head =
    let n = message_size p in
    let o = p.definition.order in
    let whole = take size piece in
    let own = read_again (known before) p v whole known_ (IsBytes-take size piece are) is in
    let long : size ≡ 1 + n = sym (length-take-le size piece within) ∙ own.1 in
    let body : drop 1 whole ≡ take n (drop 1 piece) = ap (λ k. drop 1 (take k piece)) long ∙ drop-take 1 n piece in
    let same : values_from v.local v.offset o p (take n (drop 1 piece)) ≡ v = ap (values_from v.local v.offset o p) (sym body) ∙ own.0 in
    let items : slots_from p (drop 1 piece) ≡ flat_map slot v.fields ++ flat_map slot v.dev =
    slots_are p v.local n v.offset (drop 1 piece) refl ∙ ap (λ (x : Values Global). flat_map slot x.fields ++ flat_map slot x.dev) same in
    ap (λ b. sized (head_bytes h ++ b)) items
    ∙ ap sized (sym (append_assoc (head_bytes h) (flat_map slot v.fields) (flat_map slot v.dev)))
    ∙ put_as_message before v p h known_ head

-- the definition that a message fits
pub placed : {X : Type 0} (o : Option X) (P : X → Type 0) → IsSomeAnd o P → (x : X) × (o ≡ Some x) × P x
placed None P h = absurd h
placed (Some x) P h = (x, refl, h)
