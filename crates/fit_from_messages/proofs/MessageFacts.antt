-- The message that a block says, and its bytes.
use Rattle.std.proofs.Common.{◌≡◌, ◌∙◌, ◌⊎◌, ℕ, zero, suc, ◌+◌, ◌*◌, ◌%◌, ◌<◌, ◌≤◌, ◌^◌, inl, inr, Bool, true, false, cond, List, [], ◌∷◌, ◌++◌}
use Rattle.std.proofs.Common.{length, map, take, drop, refl, sym, ap, subst, arith, flat_map, get_or}
use Rattle.std.proofs.Math.Nat.{mul_comm, suc-mul}
use Rattle.std.proofs.Math.Seq.{take-append_seam}
use Rattle.std.proofs.lemmas.Bool.Decides.{nat_tests}
use Rattle.std.proofs.lemmas.Bool.{and_parts, or_cases, eqb-true}
use Rattle.std.proofs.lemmas.List.{length-map, length-take-le, length-drop, take-append-drop}
use Rattle.std.proofs.lemmas.List.Folds.{flat_map-map}
use Rattle.std.proofs.lemmas.Grind.{flat_map-append}
use Rattle.std.proofs.lemmas.List.Sums.{sum_by-cons}
use Rattle.std.specs.Global.{Global}
use Rattle.std.specs.List.{AllByRecursion, list_all}
use Rattle.std.specs.Prelude.{◌==◌, ◌||◌, ◌&&◌, nat_lt, not, sum_by, IsSomeAnd, Option, Some, option_map, unwrap_or}
use Rattle.fit_base.proofs.Bytes.{found_passes}
use Rattle.fit_base.proofs.ByteLists.{IsBytes-drop, IsBytes-take}
use Rattle.fit_base.proofs.NumberLaws.{number-below}
use Rattle.fit_base.specs.BaseTypes.{BaseType, base_type, base_types, byte, item_width}
use Rattle.fit_base.specs.Fields.{HasShape, items_bytes}
use Rattle.fit_base.specs.Numbers.{IsBytes, number}
use Rattle.fit_base.specs.declared.number.Order.{Order}
use Rattle.fit_base.specs.declared.number.Order.TheVariants.{Little}
use Rattle.fit_record.specs.ReadMessages.{numbers_of}
use Rattle.fit_record.specs.Environment.{Environment, defined_at}
use Rattle.fit_record.specs.Records.{DataFits, DataHeaderFits, HaveShape, IsRecord, data_bytes, data_header, dev_layout, layout, message_size, order_at}
use Rattle.fit_record.specs.declared.definition.FieldDef.{FieldDef}
use Rattle.fit_record.specs.declared.environment.Defined.{Defined}
use Rattle.fit_record.specs.declared.message.Record.TheVariants.{Values as Data}
use Rattle.fit_record.specs.declared.message.Values.{Values}
use Rattle.fit_from_messages.specs.SaysChain.{Begun, fields_of, known_to, message_said, slots_at, why_no_message}
use Rattle.fit_from_messages.specs.declared.fault.BlockReason.{BlockReason}
use Rattle.fit_from_messages.specs.declared.fault.BlockReason.TheVariants as why
use Rattle.fit_from_messages.specs.declared.slot.Slot.{Slot}
use Rattle.fit_from_messages.specs.Parts.{byte_at, items_read, local_stands, offset_in, slot_stands}
use Rattle.fit_from_messages.specs.Alone.{message_with}
use Rattle.fit_from_messages.specs.Slots.{IsSlot, SlotsFit, slot_size}
use Rattle.fit_from_messages.specs.inner.Slots.{Knows}

-- ---- widths

abbrev has_width : BaseType → Bool
has_width t = (t.width == 1) || ((t.width == 2) || ((t.width == 4) || (t.width == 8)))

abbrev IsWidth : ℕ → Type 0
IsWidth w = (w ≡ 1) ⊎ (w ≡ 2) ⊎ (w ≡ 4) ⊎ (w ≡ 8)

width_of_test : (w : ℕ) → ((w == 1) || ((w == 2) || ((w == 4) || (w == 8)))) ≡ true → IsWidth w
width_of_test w h = elim (or_cases (w == 1) _ h) [
  | inl a ↦ inl (eqb-true w 1 a)
  | inr k ↦ elim (or_cases (w == 2) _ k) [
    | inl a ↦ inr (inl (eqb-true w 2 a))
    | inr l ↦ elim (or_cases (w == 4) _ l) [ inl a ↦ inr (inr (inl (eqb-true w 4 a))) | inr m ↦ inr (inr (inr (eqb-true w 8 m))) ]
  ]
]

width_chosen : (b : Bool) (w : ℕ) → IsWidth w → IsWidth (cond b w 1)
width_chosen true w h = h
width_chosen false w h = inl refl

is_width : (code size : ℕ) → IsWidth (item_width code size)
is_width code size =
    width_chosen (size % (base_type code).width == 0) (base_type code).width
    (width_of_test (base_type code).width (found_passes (λ t. t.code == code) has_width byte base_types refl refl))

-- ---- slots of fields

pub are_slots : (fields : List (ℕ × ℕ)) (slots : List Slot) → SlotsFit fields slots → (k : ℕ) (d : Slot) → k < length slots → IsSlot (get_or slots k d)
are_slots [] [] fit k d less = absurd (omega (arith, less))
are_slots (f ∷ fields) (s ∷ slots) fit zero d less = subst IsWidth (sym fit.0) (is_width f.0 f.1)
are_slots (f ∷ fields) (s ∷ slots) fit (suc k) d less = are_slots fields slots fit.2 k d (omega (arith, less))
are_slots [] (s ∷ slots) fit k d less = absurd fit
are_slots (f ∷ fields) [] fit k d less = absurd fit

pub same_size : (fields : List (ℕ × ℕ)) (slots : List Slot) → SlotsFit fields slots → sum_by slot_size slots ≡ sum_by (λ (f : ℕ × ℕ). f.1) fields
same_size [] [] fit = refl
same_size (f ∷ fields) (s ∷ slots) fit =
    omega (arith, sum_by-cons slot_size s slots, sum_by-cons (λ (f : ℕ × ℕ). f.1) f fields, fit.1, same_size fields slots fit.2)
same_size [] (s ∷ slots) fit = absurd fit
same_size (f ∷ fields) [] fit = absurd fit

front_fits : (fields others : List (ℕ × ℕ)) (slots : List Slot) → SlotsFit (fields ++ others) slots → SlotsFit fields (take (length fields) slots)
front_fits [] others slots fit = tt
front_fits (f ∷ fields) others (s ∷ slots) fit = (fit.0, fit.1, front_fits fields others slots fit.2)
front_fits (f ∷ fields) others [] fit = absurd fit

back_fits : (fields others : List (ℕ × ℕ)) (slots : List Slot) → SlotsFit (fields ++ others) slots → SlotsFit others (drop (length fields) slots)
back_fits [] others slots fit = fit
back_fits (f ∷ fields) others (s ∷ slots) fit = back_fits fields others slots fit.2
back_fits (f ∷ fields) others [] fit = absurd fit

-- ---- their items

all_below : (w n : ℕ) (bytes : List ℕ) → IsBytes bytes → n * w ≤ length bytes → AllByRecursion (λ k. k < 256 ^ w) (numbers_of Little w n bytes)
all_below w zero bytes are enough = tt
all_below w (suc n) bytes are enough =
    let wide : length (take w bytes) ≡ w = length-take-le w bytes (omega (arith, suc-mul n w, enough)) in (
      subst (λ k. number Little (take w bytes) < 256 ^ k) wide (number-below Little (take w bytes) (IsBytes-take w bytes are)),
      all_below w n (drop w bytes) (IsBytes-drop w bytes are) (omega (arith, suc-mul n w, enough, length-drop w bytes)),
    )

length-numbers_of : (w n : ℕ) (bytes : List ℕ) → length (numbers_of Little w n bytes) ≡ n
length-numbers_of w zero bytes = refl
length-numbers_of w (suc n) bytes = ap suc (length-numbers_of w n (drop w bytes))

has_shape : (block : List ℕ) (f : ℕ × ℕ) (s : Slot) → IsBytes block → s.width ≡ item_width f.0 f.1 → slot_size s ≡ f.1 → slot_stands block s ≡ true
    → HasShape f.0 f.1 (items_read block s)
has_shape block f s are wide whole stands =
    let turned : s.width * s.count ≡ s.count * s.width = mul_comm s.width s.count in
    let enough : s.place + s.width * s.count ≤ length block = grind (arith, stands) in record {
      width = wide;
      whole = ap (λ n. n * s.width) (length-numbers_of s.width s.count (drop s.place block)) ∙ sym turned ∙ whole;
      fits = all_below s.width s.count (drop s.place block) (IsBytes-drop s.place block are) (omega (arith, enough, turned, length-drop s.place block));
    }

have_shape : (block : List ℕ) (fields : List (ℕ × ℕ)) (slots : List Slot) → IsBytes block → SlotsFit fields slots → list_all (slot_stands block) slots ≡ true
    → HaveShape fields (map (items_read block) slots)
have_shape block [] [] are fit stand = tt
have_shape block (f ∷ fields) (s ∷ slots) are fit stand =
    let both = and_parts (slot_stands block s) (list_all (slot_stands block) slots) stand in
    (has_shape block f s are fit.0 fit.1 both.0, have_shape block fields slots are fit.2 both.1)
have_shape block [] (s ∷ slots) are fit stand = absurd fit
have_shape block (f ∷ fields) [] are fit stand = absurd fit

all_in_front : (p : Slot → Bool) (n : ℕ) (slots : List Slot) → list_all p slots ≡ true → list_all p (take n slots) ≡ true
all_in_front p zero slots all = refl
all_in_front p (suc n) [] all = refl
all_in_front p (suc n) (s ∷ slots) all =
    let both = and_parts (p s) (list_all p slots) all in
    ap (λ b. b && list_all p (take n slots)) both.0 ∙ all_in_front p n slots both.1

all_in_back : (p : Slot → Bool) (n : ℕ) (slots : List Slot) → list_all p slots ≡ true → list_all p (drop n slots) ≡ true
all_in_back p zero slots all = all
all_in_back p (suc n) [] all = refl
all_in_back p (suc n) (s ∷ slots) all = all_in_back p n slots (and_parts (p s) (list_all p slots) all).1

pub shapes : (block : List ℕ) (fields others : List (ℕ × ℕ)) (slots : List Slot) → IsBytes block → SlotsFit (fields ++ others) slots
    → list_all (slot_stands block) slots ≡ true
    → HaveShape fields (map (items_read block) (take (length fields) slots)) × HaveShape others (map (items_read block) (drop (length fields) slots))
shapes block fields others slots are fit stand = (
  have_shape block fields (take (length fields) slots) are (front_fits fields others slots fit) (all_in_front (slot_stands block) (length fields) slots stand),
  have_shape block others (drop (length fields) slots) are (back_fits fields others slots fit) (all_in_back (slot_stands block) (length fields) slots stand),
)

pub all_bytes : (block : List ℕ) (o : Order) (n : ℕ) (slots : List Slot) → flat_map (λ s. items_bytes o (items_read block s)) slots
    ≡ flat_map (items_bytes o) (map (items_read block) (take n slots)) ++ flat_map (items_bytes o) (map (items_read block) (drop n slots))
all_bytes block o n slots =
    ap (flat_map (λ s. items_bytes o (items_read block s))) (sym (take-append-drop n slots))
    ∙ flat_map-append (λ s. items_bytes o (items_read block s)) (take n slots) (drop n slots)
    ∙ ap (λ xs. xs ++ flat_map (λ s. items_bytes o (items_read block s)) (drop n slots)) (sym (flat_map-map (items_bytes {A = Global} o)
    (items_read block) (take n slots)))
    ∙ ap (λ xs. flat_map (items_bytes {A = Global} o) (map (items_read block) (take n slots)) ++ xs)
    (sym (flat_map-map (items_bytes {A = Global} o) (items_read block) (drop n slots)))

-- ---- the record

-- The header and the items of a block are the bytes of the message that it says.
pub said_record : (f : Begun) (block : List ℕ) (p : Defined Global) (bytes : List ℕ) → IsBytes block → defined_at (known_to f) (byte_at 6 block) ≡ Some p
    → DataHeaderFits (byte_at 6 block) (offset_in block) → SlotsFit (layout p ++ dev_layout p) (slots_at f (byte_at 6 block))
    → list_all (slot_stands block) (slots_at f (byte_at 6 block)) ≡ true
    → bytes ≡ data_header (byte_at 6 block) (offset_in block)
    ∷ flat_map (λ s. items_bytes p.definition.order (items_read block s)) (slots_at f (byte_at 6 block))
    → IsRecord (known_to f) (Data (message_said f block)) bytes
said_record f block p bytes are defined header fit stand is =
    let local : ℕ = byte_at 6 block in
    let slots : List Slot = slots_at f local in
    let v : Values Global = message_said f block in
    let n : fields_of f local ≡ length (layout p) =
    ap (λ o. unwrap_or (option_map (λ (q : Defined Global). length q.definition.fields) o) 0) defined
    ∙ sym (length-map p.definition.fields (λ (d : FieldDef). (d.code, d.size))) in
    let both = shapes block (layout p) (dev_layout p) slots are fit stand in
    let order : order_at (known_to f) local ≡ p.definition.order = ap (λ o. unwrap_or (option_map (λ
    (q : Defined Global). q.definition.order) o) Little) defined in
    let fits : DataFits v p = record {
      header = header;
      fields = subst (λ k. HaveShape (layout p) (map (items_read block) (take k slots))) (sym n) both.0;
      dev_fields = subst (λ k. HaveShape (dev_layout p) (map (items_read block) (drop k slots))) (sym n) both.1;
    } in (
      subst (λ o. IsSomeAnd o (DataFits v)) (sym defined) fits,
      is ∙ ap (λ xs. data_header local (offset_in block) ∷ xs) (all_bytes block p.definition.order (fields_of f local) slots)
          ∙ ap (λ o. data_header local (offset_in block) ∷ data_bytes o v) (sym order),
    )

-- the same of a block by itself, in any file where the local message type has a definition of these slots
pub lone_record : (e : Environment Global) (p : Defined Global) (block : List ℕ) (slots : List Slot) (local : ℕ) (offset : Option ℕ) (bytes : List ℕ)
    → IsBytes block → defined_at e local ≡ Some p → DataHeaderFits local offset → SlotsFit (layout p ++ dev_layout p) slots
    → list_all (slot_stands block) slots ≡ true
    → bytes ≡ data_header local offset ∷ flat_map (λ s. items_bytes p.definition.order (items_read block s)) slots
    → IsRecord e (Data (message_with block slots (length p.definition.fields) local offset)) bytes
lone_record e p block slots local offset bytes are defined header fit stand is =
    let count : ℕ = length p.definition.fields in
    let v : Values Global = message_with block slots count local offset in
    let n : count ≡ length (layout p) = sym (length-map p.definition.fields (λ (d : FieldDef). (d.code, d.size))) in
    let both = shapes block (layout p) (dev_layout p) slots are fit stand in
    let order : order_at e local ≡ p.definition.order = ap (λ o. unwrap_or (option_map (λ (q : Defined Global). q.definition.order) o) Little) defined in
    let fits : DataFits v p = record {
      header = header;
      fields = subst (λ k. HaveShape (layout p) (map (items_read block) (take k slots))) (sym n) both.0;
      dev_fields = subst (λ k. HaveShape (dev_layout p) (map (items_read block) (drop k slots))) (sym n) both.1;
    } in (
      subst (λ o. IsSomeAnd o (DataFits v)) (sym defined) fits,
      is ∙ ap (λ xs. data_header local offset ∷ xs) (all_bytes block p.definition.order count slots)
          ∙ ap (λ o. data_header local offset ∷ data_bytes o v) (sym order),
    )

-- the same of a file that what is known is of
pub known_record : (f : Begun) (block : List ℕ) (known : Environment Global) (slots : List Slot) (p : Defined Global) (local : ℕ) (offset : Option ℕ)
    (bytes : List ℕ) → IsBytes block → Knows f known (byte_at 6 block) slots → defined_at known (byte_at 6 block) ≡ Some p → local ≡ byte_at 6 block
    → offset ≡ offset_in block → DataHeaderFits local offset → SlotsFit (layout p ++ dev_layout p) slots → list_all (slot_stands block) slots ≡ true
    → bytes ≡ data_header local offset ∷ flat_map (λ s. items_bytes p.definition.order (items_read block s)) slots
    → IsRecord known (Data (message_said f block)) bytes
known_record f block known slots p local offset bytes are knows defined here then header fit stand is =
    subst (λ e. IsRecord e (Data (message_said f block)) bytes) knows.0
    (said_record f block p bytes are (subst (λ e. defined_at e (byte_at 6 block) ≡ Some p) (sym knows.0) defined)
    (subst (λ o. DataHeaderFits (byte_at 6 block) o) then (subst (λ n. DataHeaderFits n offset) here header))
    (subst (SlotsFit (layout p ++ dev_layout p)) (sym knows.1) fit) (ap (list_all (slot_stands block)) knows.1 ∙ stand)
    (is ∙ ap (λ n. data_header n offset ∷ flat_map (λ s. items_bytes p.definition.order (items_read block s)) slots) here
    ∙ ap (λ o. data_header (byte_at 6 block) o ∷ flat_map (λ s. items_bytes p.definition.order (items_read block s)) slots) then
    ∙ ap (λ ss. data_header (byte_at 6 block) (offset_in block) ∷ flat_map (λ s. items_bytes p.definition.order (items_read block s)) ss) (sym knows.1)))

pub size_known : (o : Option (Defined Global)) (p : Defined Global) (n : ℕ) → o ≡ Some p → Some n ≡ option_map message_size o → n ≡ message_size p
size_known o p n is told = ap (λ x. unwrap_or x 0) (told ∙ ap (option_map message_size) is)

-- what was written over all bytes of a vector
pub all_written : (new old : List ℕ) (n : ℕ) → n ≡ length old → length new ≡ length old → take n (new ++ drop (length new) old) ≡ new
all_written new old n is same =
    ap (λ k. take k (new ++ drop (length new) old)) (is ∙ sym same) ∙ take-append_seam new (drop (length new) old)

-- ---- no local message type

not_type : (local : ℕ) (is_normal : Bool) → 16 ≤ local → nat_lt local (cond is_normal 16 4) ≡ false
not_type local true past = grind (arith, nat_tests)
not_type local false past = grind (arith, nat_tests)

fails_first : (b : Bool) (x : BlockReason) (rest : Option BlockReason) → b ≡ false → cond (not b) (Some x) rest ≡ Some x
fails_first b x rest fails = rw fails refl

pub no_local : (f : Begun) (block : List ℕ) → 16 ≤ byte_at 6 block → why_no_message f block ≡ Some why.Local
no_local f block past = fails_first (local_stands block) why.Local _ (not_type (byte_at 6 block) (byte_at 7 block == 0xFF) past)
