-- The block of a message is read as that message.
use Rattle.std.proofs.Common.{◌≡◌, ◌∙◌, ℕ, suc, ◌+◌, ◌-◌, ◌*◌, ◌/◌, ◌%◌, ◌^◌, ◌<◌, ◌≤◌, ◌==◌, List, [], ◌∷◌, ◌++◌, Bool, true, false, refl, sym, ap}
use Rattle.std.proofs.Common.{ap₂, subst, arith, length, take, drop, append_assoc, replicate, lit<}
use Rattle.std.proofs.Math.Nat.{mul-div_cancel}
use Rattle.std.proofs.lemmas.Bool.{le-leb, lt-ltb, ne_eqb}
use Rattle.std.proofs.lemmas.Grind.{flat_map-append}
use Rattle.std.proofs.lemmas.List.{drop-drop, drop-map, drop_at, length-append, length-drop, length-map, length-replicate, take-map, take_at}
use Rattle.std.proofs.lemmas.List.Sums.{sum_by-cons}
use Rattle.std.specs.Global.{Global}
use Rattle.std.specs.List.{AllByRecursion, list_all}
use Rattle.std.specs.Prelude.{◌||◌, Option, Some, None, flat_map, if◌then◌else◌, is_none, map, nat_le, nat_lt, not, option_map, sum_by, unwrap_or}
use Rattle.fit_base.proofs.Bytes.{length-little_bytes, little-little_bytes}
use Rattle.fit_base.proofs.SameItems.{item_width_positive}
use Rattle.fit_base.proofs.ShapeTests.{length-items_bytes}
use Rattle.fit_base.specs.BaseTypes.{item_width}
use Rattle.fit_base.specs.Fields.{HasShape, items_bytes}
use Rattle.fit_base.specs.Numbers.{little_bytes, number, number_bytes}
use Rattle.fit_base.specs.declared.items.Items.{Items}
use Rattle.fit_base.specs.declared.number.Order.TheVariants.{Little}
use Rattle.fit_messages.specs.Blocks.{amounts, counts, gap, items_begin, message_block, message_head, slot, whole}
unfoldable use Rattle.fit_messages.specs.Blocks.{low}
use Rattle.fit_messages.specs.Laws.{MessagesHaveOneLength}
use Rattle.fit_profile.specs.declared.told.Told.{Told}
use Rattle.fit_record.specs.Environment.{defined_at, dev_defs}
use Rattle.fit_record.specs.ReadMessages.{numbers_of}
use Rattle.fit_record.specs.Records.{DataFits, DataHeaderFits, HaveShape, dev_layout, layout}
use Rattle.fit_record.specs.Sound.{IsSound}
use Rattle.fit_record.specs.declared.definition.DevDef.{DevDef}
use Rattle.fit_record.specs.declared.definition.FieldDef.{FieldDef}
use Rattle.fit_record.specs.declared.environment.Defined.{Defined}
use Rattle.fit_record.specs.declared.message.Values.{Values}
use Rattle.fit_from_messages.proofs.ReadBack.{size_back, sized_block, slots_from}
use Rattle.fit_from_messages.proofs.SmallSizes.{SizesAreSmall}
use Rattle.fit_from_messages.specs.Parts.{items_read, local_stands, offset_stands, slot_stands}
use Rattle.fit_from_messages.specs.SaysChain.{Begun, IsBlock, fields_of, known_to, message_said, why_no_message, slots_at}
use Rattle.fit_from_messages.specs.declared.fault.BlockReason.TheVariants.{Items as NoItems, Local, Offset, Undefined}
use Rattle.fit_from_messages.specs.declared.slot.Slot.{Slot}

-- ---- items

-- numbers in little endian are read again, whatever comes after them
numbers_back : (w : ℕ) (ns more : List ℕ) → AllByRecursion (λ n. n < 256 ^ w) ns
    → numbers_of Little w (length ns) (flat_map (number_bytes Little w) ns ++ more) ≡ ns
numbers_back w [] more small = refl
numbers_back w (n ∷ ns) more small =
    let first = little_bytes w n in
    let rest = flat_map (number_bytes Little w) ns ++ more in
    ap (λ b. number Little (take w b) ∷ numbers_of Little w (length ns) (drop w b)) (append_assoc first (flat_map (number_bytes Little w) ns) more)
    ∙ ap₂ (λ x y. number Little x ∷ numbers_of Little w (length ns) y) (take_at first rest w (length-little_bytes w n))
    (drop_at first rest w (length-little_bytes w n))
    ∙ ap₂ (λ x y. x ∷ y) (little-little_bytes w n small.0) (numbers_back w ns more small.1)

counted : (code size n w : ℕ) → w ≡ item_width code size → n * w ≡ size → size / item_width code size ≡ n
counted code size n w wide whole_ =
    ap₂ (λ s v. s / v) (sym whole_) (sym wide) ∙ mul-div_cancel n (subst (λ v. 0 < v) (sym wide) (item_width_positive code size))

-- the slot of a field of this code and size
abbrev slot_of : ℕ → ℕ × ℕ → Slot
slot_of at f = record { place = at; width = item_width f.0 f.1; count = f.1 / item_width f.0 f.1 }

one_back : (block : List ℕ) (at : ℕ) (f : ℕ × ℕ) (i : Items Global) (more : List ℕ) → HasShape f.0 f.1 i → drop at block ≡ items_bytes Little i ++ more
    → items_read block (slot_of at f) ≡ i
one_back block at f i more shape there =
    let count = counted f.0 f.1 (length i.bits) i.width shape.width shape.whole in
    let bits : numbers_of Little (item_width f.0 f.1) (f.1 / item_width f.0 f.1) (drop at block) ≡ i.bits =
    ap₂ (λ w n. numbers_of Little w n (drop at block)) (sym shape.width) count
    ∙ ap (numbers_of Little i.width (length i.bits)) there ∙ numbers_back i.width i.bits more shape.fits in
    λ k. record { width = sym shape.width k; bits = bits k }

slot_parted : (i : Items Global) (more : List ℕ) → slot i ++ more ≡ items_bytes Little i ++ (replicate (gap (length (items_bytes Little i))) 0 ++ more)
slot_parted i more = append_assoc (items_bytes Little i) (replicate (gap (length (items_bytes Little i))) 0) more

length-slot : (f : ℕ × ℕ) (i : Items Global) → HasShape f.0 f.1 i → length (slot i) ≡ whole f.1
length-slot f i shape =
    let n = length (items_bytes Little i) in
    length-append (items_bytes Little i) (replicate (gap n) 0) ∙ ap (λ k. n + k) (length-replicate (gap n) 0)
    ∙ ap whole (length-items_bytes Little f.0 f.1 i shape)

-- what comes after the items of the first field
after_slot : (block : List ℕ) (at : ℕ) (f : ℕ × ℕ) (i : Items Global) (more : List ℕ) → HasShape f.0 f.1 i → drop at block ≡ slot i ++ more
    → drop (at + whole f.1) block ≡ more
after_slot block at f i more shape there =
    sym (drop-drop (whole f.1) at block) ∙ ap (drop (whole f.1)) there ∙ drop_at (slot i) more (whole f.1) (length-slot f i shape)

-- the items of fields are read again
items_back : (block : List ℕ) (at : ℕ) (fs : List (ℕ × ℕ)) (items : List (Items Global)) → HaveShape fs items → drop at block ≡ flat_map slot items
    → map (items_read block) (slots_from at fs) ≡ items
items_back block at [] [] shape there = refl
items_back block at [] (i ∷ items) shape there = absurd shape
items_back block at (f ∷ fs) [] shape there = absurd shape
items_back block at (f ∷ fs) (i ∷ items) shape there =
    ap₂ (λ x y. x ∷ y) (one_back block at f i _ shape.0 (there ∙ slot_parted i (flat_map slot items)))
    (items_back block (at + whole f.1) fs items shape.1 (after_slot block at f i (flat_map slot items) shape.0 there))

-- they lie in the block
slots_pass : (block : List ℕ) (at : ℕ) (fs : List (ℕ × ℕ)) (items : List (Items Global)) → HaveShape fs items → drop at block ≡ flat_map slot items
    → at ≤ length block → list_all (slot_stands block) (slots_from at fs) ≡ true
slots_pass block at [] [] shape there within = refl
slots_pass block at [] (i ∷ items) shape there within = absurd shape
slots_pass block at (f ∷ fs) [] shape there within = absurd shape
slots_pass block at (f ∷ fs) (i ∷ items) shape there within =
    let left : length block - at ≡ whole f.1 + length (flat_map slot items) =
    sym (length-drop at block) ∙ ap length there ∙ length-append (slot i) (flat_map slot items)
    ∙ ap (λ n. n + length (flat_map slot items)) (length-slot f i shape.0) in
    let w = item_width f.0 f.1 in
    let first : nat_le (at + w * (f.1 / w)) (length block) ≡ true =
    le-leb (at + w * (f.1 / w)) (length block) (omega (arith, size_back f.0 f.1, left, within)) in
    rw first (slots_pass block (at + whole f.1) fs items shape.1 (after_slot block at f i (flat_map slot items) shape.0 there)
    (omega (arith, left, within)))

both_shapes : (fs gs : List (ℕ × ℕ)) (is js : List (Items Global)) → HaveShape fs is → HaveShape gs js → HaveShape (fs ++ gs) (is ++ js)
both_shapes [] gs [] js first second = second
both_shapes [] gs (i ∷ is) js first second = absurd first
both_shapes (f ∷ fs) gs [] js first second = absurd first
both_shapes (f ∷ fs) gs (i ∷ is) js first second = (first.0, both_shapes fs gs is js first.1 second)

pub as_many : (fs : List (ℕ × ℕ)) (is : List (Items Global)) → HaveShape fs is → length is ≡ length fs
as_many [] [] shape = refl
as_many [] (i ∷ is) shape = absurd shape
as_many (f ∷ fs) [] shape = absurd shape
as_many (f ∷ fs) (i ∷ is) shape = ap suc (as_many fs is shape.1)

-- ---- the record header

pub offset_back : (local : ℕ) (offset : Option ℕ) → DataHeaderFits local offset
    → (if unwrap_or offset 0xFF == 0xFF then None else Some (unwrap_or offset 0xFF)) ≡ offset
offset_back local None fits = refl
offset_back local (Some o) fits =
    ap (λ b. if b then None else Some o) (ne_eqb o 0xFF (λ e. let less = fits.1 in omega (arith, e, less)))

local_passes : (local : ℕ) (offset : Option ℕ) → DataHeaderFits local offset → nat_lt local (if unwrap_or offset 0xFF == 0xFF then 16 else 4) ≡ true
local_passes local None fits = lt-ltb local 16 fits
local_passes local (Some o) fits =
    ap (λ b. nat_lt local (if b then 16 else 4)) (ne_eqb o 0xFF (λ e. let less = fits.1 in omega (arith, e, less))) ∙ lt-ltb local 4 fits.0

offset_passes : (local : ℕ) (offset : Option ℕ) → DataHeaderFits local offset → (nat_lt (unwrap_or offset 0xFF) 32 || (unwrap_or offset 0xFF == 0xFF)) ≡ true
offset_passes local None fits = refl
offset_passes local (Some o) fits = ap (λ b. b || (o == 0xFF)) (lt-ltb o 32 fits.1)

no_reason : (a b c d : Bool) → a ≡ true → b ≡ true → c ≡ false → d ≡ true
    → (if not a then Some Local else if not b then Some Offset else if c then Some Undefined else if not d then Some NoItems else None) ≡ None
no_reason a b c d p q r s = rw (p, q, r, s) refl

-- ---- lengths

fields_few : (fields : List FieldDef) → AllByRecursion (λ (f : FieldDef). f.size < 256) fields → sum_by (λ f. whole f.size) fields ≤ length fields * 256
fields_few [] small = omega arith
fields_few (f ∷ fields) small = omega (arith, sum_by-cons (λ (f : FieldDef). whole f.size) f fields, small.0, fields_few fields small.1)

devs_few : (fields : List DevDef) → AllByRecursion (λ (f : DevDef). f.size < 256) fields → sum_by (λ f. whole f.size) fields ≤ length fields * 256
devs_few [] small = omega arith
devs_few (f ∷ fields) small = omega (arith, sum_by-cons (λ (f : DevDef). whole f.size) f fields, small.0, devs_few fields small.1)

begin_early : (c : Bool) → 40 + (if c then 32 else 0) < 100
begin_early true = lit< tt
begin_early false = lit< tt

-- ---- what is read of the block

module _ (file place number : ℕ) (v : Values Global) (p : Defined Global) (t : Told) (fits : DataFits v p) where
  abbrev block : List ℕ
  block = message_block file place number v p.definition t

  abbrev start : ℕ
  start = items_begin p.definition

  abbrev both : List (ℕ × ℕ)
  both = layout p ++ dev_layout p

  past_amounts : (c : Bool) (x y : List ℕ) → drop (if c then 32 else 0) (((if c then amounts t else []) ++ x) ++ y) ≡ x ++ y
  unfolding low
  past_amounts true x y = refl
  past_amounts false x y = refl

  after_front : drop 40 block ≡ ((if counts p.definition then amounts t else []) ++ flat_map slot v.fields) ++ flat_map slot v.dev
  unfolding low
  after_front = refl

  items_there : drop start block ≡ flat_map slot (v.fields ++ v.dev)
  items_there =
      sym (drop-drop (if counts p.definition then 32 else 0) 40 block) ∙ ap (drop (if counts p.definition then 32 else 0)) after_front
      ∙ past_amounts (counts p.definition) (flat_map slot v.fields) (flat_map slot v.dev) ∙ sym (flat_map-append slot v.fields v.dev)

  shapes : HaveShape both (v.fields ++ v.dev)
  shapes = both_shapes (layout p) (dev_layout p) v.fields v.dev fits.fields fits.dev_fields

  amounts_in : (c : Bool) (x y : List ℕ) → 40 + (if c then 32 else 0) ≤ 40 + length (((if c then amounts t else []) ++ x) ++ y)
  unfolding low
  amounts_in true x y = omega arith
  amounts_in false x y = omega arith

  starts_within : start ≤ length block
  unfolding low
  starts_within =
      let within = amounts_in (counts p.definition) (flat_map slot v.fields) (flat_map slot v.dev) in
      omega (arith, within)

  all_items : map (items_read block) (slots_from start both) ≡ v.fields ++ v.dev
  all_items = items_back block start both (v.fields ++ v.dev) shapes items_there

  length-fields : length v.fields ≡ length p.definition.fields
  length-fields = as_many (layout p) v.fields fits.fields ∙ length-map p.definition.fields (λ (f : FieldDef). (f.code, f.size))

  -- in a file where the local message type has this definition, and its items are where the definition says
  module _ (f : Begun) (defined : defined_at (known_to f) v.local ≡ Some p) (slots : slots_at f v.local ≡ slots_from start both) where
    fields_counted : fields_of f v.local ≡ length v.fields
    fields_counted =
        ap (λ o. unwrap_or (option_map (λ (q : Defined Global). length q.definition.fields) o) 0) defined ∙ sym length-fields

    fields_are : map (items_read block) (take (fields_of f v.local) (slots_at f v.local)) ≡ v.fields
    fields_are =
        ap₂ (λ n s. map (items_read block) (take n s)) fields_counted slots
        ∙ sym (take-map (items_read block) (length v.fields) (slots_from start both)) ∙ ap (take (length v.fields)) all_items
        ∙ take_at v.fields v.dev (length v.fields) refl

    devs_are : map (items_read block) (drop (fields_of f v.local) (slots_at f v.local)) ≡ v.dev
    devs_are =
        ap₂ (λ n s. map (items_read block) (drop n s)) fields_counted slots
        ∙ sym (drop-map (items_read block) (length v.fields) (slots_from start both)) ∙ ap (drop (length v.fields)) all_items
        ∙ drop_at v.fields v.dev (length v.fields) refl

    -- it says the message
    pub message_back : message_said f block ≡ v
    unfolding low
    message_back = λ i. record {
      local = v.local;
      offset = offset_back v.local v.offset fits.header i;
      fields = fields_are i;
      dev = devs_are i;
    }

    -- it can stand there
    pub message_stands : why_no_message f block ≡ None
    unfolding low
    message_stands =
        no_reason (local_stands block) (offset_stands block) (is_none (defined_at (known_to f) v.local))
        (list_all (slot_stands block) (slots_at f v.local)) (local_passes v.local v.offset fits.header) (offset_passes v.local v.offset fits.header)
        (ap (λ (o : Option (Defined Global)). is_none o) defined)
        (ap (list_all (slot_stands block)) slots ∙ slots_pass block start both (v.fields ++ v.dev) shapes items_there starts_within)

  length-rest : length block
      ≡ 4 + length (message_head file place number v.local v.offset (counts p.definition) t ++ flat_map slot v.fields ++ flat_map slot v.dev)
  unfolding low
  length-rest = omega arith

  forty : 40 ≤ length block
  unfolding low
  forty = omega arith

  -- it is a block
  pub is_message_block : MessagesHaveOneLength Global → IsSound p → SizesAreSmall p.definition → length block % 8 ≡ 0 → IsBlock block
  is_message_block one_length sound small multiple =
      let rest = message_head file place number v.local v.offset (counts p.definition) t ++ flat_map slot v.fields ++ flat_map slot v.dev in
      sized_block rest (omega (arith, length-rest, forty)) (omega (
        arith,
        length-rest,
        one_length file place number v p t sound fits,
        begin_early (counts p.definition),
        fields_few p.definition.fields small.fields,
        devs_few (dev_defs p.definition.dev) small.dev_fields,
        sound.fields,
        sound.dev_fields,
      )) multiple
