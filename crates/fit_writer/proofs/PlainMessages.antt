-- Messages of fields alone, and what a reader is told of them.
use Rattle.std.proofs.Common.{◌≡◌, ◌∙◌, ℕ, zero, suc, ◌+◌, ◌*◌, ◌<◌, ◌≤◌, Bool, true, false, cond, List, [], ◌∷◌, ◌++◌, length, map, take, drop, refl, sym}
use Rattle.std.proofs.Common.{ap, ap₂, arith}
use Rattle.std.specs.Global.{Global}
use Rattle.std.specs.List.{AllByRecursion, list_all}
use Rattle.std.specs.Prelude.{◌==◌, ◌&&◌, nat_le, Some, None, option_and_then, zip}
use Rattle.std.proofs.lemmas.Bool.{and_parts}
use Rattle.std.proofs.lemmas.Bool.Decides.{nat_tests}
use Rattle.std.proofs.lemmas.List.{drop-append-le, length-append, length-drop}
use Rattle.std.proofs.Math.Seq.{drop-append_seam}
use Rattle.fit_base.specs.BaseTypes.{item_width}
use Rattle.fit_base.specs.declared.items.Items.{Items}
use Rattle.fit_base.specs.declared.number.Order.TheVariants.{Little}
use Rattle.fit_record.specs.declared.definition.FieldDef.{FieldDef}
use Rattle.fit_record.specs.ReadMessages.{numbers_of}
use Rattle.fit_profile.specs.Looks.{first_field}
use Rattle.fit_profile.specs.Times.{time_in_field}
use Rattle.fit_from_messages.specs.Parts.{items_read, slot_stands}
use Rattle.fit_from_messages.specs.Slots.{SlotsFit}
use Rattle.fit_from_messages.specs.declared.slot.Slot.{Slot}
use Rattle.fit_writer.specs.inner.Plain.{IsMade, fields_made}

-- ---- items in a block that grows

numbers_more : (n : ℕ) (xs ys : List ℕ) → n ≤ length xs → numbers_of Little 1 n (xs ++ ys) ≡ numbers_of Little 1 n xs
numbers_more zero xs ys few = refl
numbers_more (suc n) [] ys few = absurd (omega (arith, few))
numbers_more (suc n) (x ∷ xs) ys few = ap (λ (ns : List ℕ). (x + 256 * 0) ∷ ns) (numbers_more n xs ys (omega (arith, few)))

pub numbers_are_bytes : (bytes : List ℕ) → numbers_of Little 1 (length bytes) bytes ≡ bytes
numbers_are_bytes [] = refl
numbers_are_bytes (b ∷ bytes) = λ i. (let same : b + 256 * 0 ≡ b = omega arith in same i) ∷ numbers_are_bytes bytes i

within : (n m : ℕ) → nat_le n m ≡ true → n ≤ m
within n m h = grind (arith, nat_tests)

is_within : (n m : ℕ) → n ≤ m → nat_le n m ≡ true
is_within n m h = grind (arith, nat_tests)

items_more : (block more : List ℕ) (s : Slot) → slot_stands block s ≡ true → s.width ≡ 1 → items_read (block ++ more) s ≡ items_read block s
items_more block more s stands one =
    let reach : s.place + s.width * s.count ≤ length block = within (s.place + s.width * s.count) (length block) stands in
    let same : s.width * s.count ≡ s.count = ap (λ (w : ℕ). w * s.count) one ∙ (omega arith) in
    let enough : s.place + s.count ≤ length block = omega (arith, reach, same) in
    let few : s.count ≤ length (drop s.place block) = omega (arith, enough, length-drop s.place block) in
    let numbers : numbers_of Little 1 s.count (drop s.place (block ++ more)) ≡ numbers_of Little 1 s.count (drop s.place block) =
    ap (numbers_of Little 1 s.count) (drop-append-le s.place block more (omega (arith, enough))) ∙ numbers_more s.count (drop s.place block) more few in
    ap (λ (w : ℕ). let i : Items Global = record { width = w; bits = numbers_of Little w s.count (drop s.place (block ++ more)) } in i) one
    ∙ ap (λ (bits : List ℕ). let i : Items Global = record { width = 1; bits = bits } in i) numbers
    ∙ sym (ap (λ (w : ℕ). let i : Items Global = record { width = w; bits = numbers_of Little w s.count (drop s.place block) } in i) one)

all_more : (block more : List ℕ) (slots : List Slot) → list_all (slot_stands block) slots ≡ true → AllByRecursion (λ s. s.width ≡ 1) slots
    → map (items_read (block ++ more)) slots ≡ map (items_read block) slots
all_more block more [] stand bytes = refl
all_more block more (s ∷ slots) stand bytes =
    let parts = and_parts (slot_stands block s) (list_all (slot_stands block) slots) stand in
    ap₂ (λ (i : Items Global) (is : List (Items Global)). i ∷ is) (items_more block more s parts.0 bytes.0) (all_more block more slots parts.1 bytes.1)

-- the items that come last
abbrev pub last_slot : List ℕ → List ℕ → Slot
last_slot block bytes = record { place = length block; width = 1; count = length bytes }

last_items : (block bytes : List ℕ) → items_read (block ++ bytes) (last_slot block bytes) ≡ record { width = 1; bits = bytes }
last_items block bytes =
    ap (λ (bits : List ℕ). let i : Items Global = record { width = 1; bits = bits } in i)
    (ap (numbers_of Little 1 (length bytes)) (drop-append_seam block bytes) ∙ numbers_are_bytes bytes)

-- ---- one field more

slots_long : (fields : List FieldDef) (slots : List Slot) → SlotsFit (map (λ (f : FieldDef). (f.code, f.size)) fields) slots → length slots ≡ length fields
slots_long [] [] fit = refl
slots_long [] (s ∷ slots) fit = absurd fit
slots_long (f ∷ fields) [] fit = absurd fit
slots_long (f ∷ fields) (s ∷ slots) fit = ap suc (slots_long fields slots fit.2)

zip_more : (fields : List FieldDef) (slots : List Slot) (f : FieldDef) (s : Slot) (read : Slot → Items Global) → length slots ≡ length fields
    → zip (fields ++ f ∷ []) (map read (slots ++ s ∷ [])) ≡ zip fields (map read slots) ++ (f, read s) ∷ []
zip_more [] [] f s read long = refl
zip_more [] (t ∷ slots) f s read long = absurd (omega (arith, long))
zip_more (g ∷ fields) [] f s read long = absurd (omega (arith, long))
zip_more (g ∷ fields) (t ∷ slots) f s read long = ap (λ xs. (g, read t) ∷ xs) (zip_more fields slots f s read (omega (arith, long)))

zip_same : (fields : List FieldDef) (slots : List Slot) (a b : Slot → Items Global) → map a slots ≡ map b slots
    → zip fields (map a slots) ≡ zip fields (map b slots)
zip_same fields slots a b same = ap (zip fields) same

pub made_more : (fields : List FieldDef) (slots : List Slot) (block bytes : List ℕ) (f : FieldDef) → IsMade fields slots block
    → fields_made (fields ++ f ∷ []) (slots ++ last_slot block bytes ∷ []) (block ++ bytes)
    ≡ fields_made fields slots block ++ (f, record { width = 1; bits = bytes }) ∷ []
made_more fields slots block bytes f plain =
    zip_more fields slots f (last_slot block bytes) (items_read (block ++ bytes)) (slots_long fields slots plain.fit)
    ∙ ap₂ (λ (xs : List (FieldDef × Items Global)) (i : Items Global). xs ++ (f, i) ∷ [])
    (zip_same fields slots (items_read (block ++ bytes)) (items_read block) (all_more block bytes slots plain.stand plain.bytes))
    (last_items block bytes)

stands_more : (block more : List ℕ) (s : Slot) → slot_stands block s ≡ true → slot_stands (block ++ more) s ≡ true
stands_more block more s stands =
    is_within (s.place + s.width * s.count) (length (block ++ more))
    (omega (arith, within (s.place + s.width * s.count) (length block) stands, length-append block more))

all_stand : (block more : List ℕ) (slots : List Slot) (s : Slot) → list_all (slot_stands block) slots ≡ true → slot_stands (block ++ more) s ≡ true
    → list_all (slot_stands (block ++ more)) (slots ++ s ∷ []) ≡ true
all_stand block more [] s stand last = ap (λ (b : Bool). b && true) last
all_stand block more (t ∷ slots) s stand last =
    let parts = and_parts (slot_stands block t) (list_all (slot_stands block) slots) stand in
    ap₂ (λ (a b : Bool). a && b) (stands_more block more t parts.0) (all_stand block more slots s parts.1 last)

fit_more : (fields : List FieldDef) (slots : List Slot) (f : FieldDef) (s : Slot) → SlotsFit (map (λ (f : FieldDef). (f.code, f.size)) fields) slots
    → s.width ≡ item_width f.code f.size → s.width * s.count ≡ f.size
    → SlotsFit (map (λ (f : FieldDef). (f.code, f.size)) (fields ++ f ∷ [])) (slots ++ s ∷ [])
fit_more [] [] f s fit width size = (width, size, tt)
fit_more [] (t ∷ slots) f s fit width size = absurd fit
fit_more (g ∷ fields) [] f s fit width size = absurd fit
fit_more (g ∷ fields) (t ∷ slots) f s fit width size = (fit.0, fit.1, fit_more fields slots f s fit.2 width size)

pub all_last : {X : Type 0} (P : X → Type 0) (xs : List X) (x : X) → AllByRecursion P xs → P x → AllByRecursion P (xs ++ x ∷ [])
all_last P [] x all last = (last, tt)
all_last P (y ∷ xs) x all last = (all.0, all_last P xs x all.1 last)

pub plain_more : (fields : List FieldDef) (slots : List Slot) (block bytes : List ℕ) (f : FieldDef) → IsMade fields slots block → f.size ≡ length bytes
    → f.number < 253 → item_width f.code (length bytes) ≡ 1 → length bytes ≤ 255
    → IsMade (fields ++ f ∷ []) (slots ++ last_slot block bytes ∷ []) (block ++ bytes)
plain_more fields slots block bytes f plain size number width short = record {
  stand = all_stand block bytes slots (last_slot block bytes) plain.stand
      (is_within (length block + 1 * length bytes) (length (block ++ bytes)) (omega (arith, length-append block bytes)));
  fit = fit_more fields slots f (last_slot block bytes) plain.fit (sym width ∙ ap (item_width f.code) (sym size))
      ((omega arith) ∙ sym size);
  bytes = all_last (λ (s : Slot). s.width ≡ 1) slots (last_slot block bytes) plain.bytes refl;
  untimed = all_last (λ (f : FieldDef). f.number < 253) fields f plain.untimed number;
  short = omega (arith, plain.short, short, length-append block bytes, length-append fields (f ∷ []));
}

pub none_made : IsMade [] [] []
none_made = record { stand = refl; fit = tt; bytes = tt; untimed = tt; short = omega arith }

pub made_length : (fields : List FieldDef) (slots : List Slot) (block : List ℕ) → IsMade fields slots block
    → length (fields_made fields slots block) ≡ length fields
made_length fields slots block plain = go fields slots (slots_long fields slots plain.fit)
  where
    go : (fields : List FieldDef) (slots : List Slot) → length slots ≡ length fields → length (zip fields (map (items_read block) slots)) ≡ length fields
    go [] slots long = refl
    go (f ∷ fields) [] long = absurd (omega (arith, long))
    go (f ∷ fields) (s ∷ slots) long = ap suc (go fields slots (omega (arith, long)))

-- ---- what is told

pub all_taken : (fields : List FieldDef) (slots : List Slot) → SlotsFit (map (λ (f : FieldDef). (f.code, f.size)) fields) slots
    → take (length fields) slots ≡ slots
all_taken [] [] fit = refl
all_taken [] (s ∷ slots) fit = absurd fit
all_taken (f ∷ fields) [] fit = absurd fit
all_taken (f ∷ fields) (s ∷ slots) fit = ap (λ ss. s ∷ ss) (all_taken fields slots fit.2)

other_number : (n : ℕ) → n < 253 → (n == 253) ≡ false
other_number n less = grind (arith, nat_tests)

pub no_time : (fields : List FieldDef) (items : List (Items Global)) → AllByRecursion (λ (f : FieldDef). f.number < 253) fields
    → option_and_then (λ (f : FieldDef × Items Global). time_in_field f.0 f.1) (first_field fields items 253) ≡ None
no_time [] items all = refl
no_time (f ∷ fields) [] all = refl
no_time (f ∷ fields) (i ∷ items) all =
    ap (λ (b : Bool). option_and_then (λ (f : FieldDef × Items Global). time_in_field f.0 f.1) (cond b (Some (f, i)) (first_field fields items 253)))
    (other_number f.number all.0)
    ∙ no_time fields items all.1

-- the definitions of the fields that were made
pub made_fields : (fields : List FieldDef) (slots : List Slot) (block : List ℕ) → length slots ≡ length fields
    → map (λ (f : FieldDef × Items Global). f.0) (fields_made fields slots block) ≡ fields
made_fields [] slots block long = refl
made_fields (f ∷ fields) [] block long = absurd (omega (arith, long))
made_fields (f ∷ fields) (s ∷ slots) block long = ap (λ fs. f ∷ fs) (made_fields fields slots block (omega (arith, long)))

pub plain_long : (fields : List FieldDef) (slots : List Slot) (block : List ℕ) → IsMade fields slots block → length slots ≡ length fields
plain_long fields slots block plain = slots_long fields slots plain.fit
