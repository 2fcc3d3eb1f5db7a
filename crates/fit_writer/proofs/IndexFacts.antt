-- The developer data indices that messages say, one record after another.
use Rattle.std.proofs.Common.{◌≡◌, ◌∙◌, ℕ, zero, suc, ◌+◌, ◌*◌, ◌<◌, ◌≤◌, inl, inr, Bool, true, false, cond, List, [], ◌∷◌, ◌++◌, length, map, take, drop}
use Rattle.std.proofs.Common.{get_or, set, refl, sym, ap, subst, arith, add-one}
use Rattle.std.specs.Global.{Global}
use Rattle.std.specs.List.{Contains}
use Rattle.std.specs.Prelude.{◌==◌, ◌⊎◌, if◌then◌else◌, Option, Some, None, option_and_then, option_map, replicate, unwrap_or, zip}
use Rattle.std.proofs.lemmas.Bool.{cases_eq}
use Rattle.std.proofs.lemmas.Bool.Decides.{nat_tests}
use Rattle.std.proofs.lemmas.List.{get_or-set_same, get_or-set_other, length-set}
use Rattle.std.proofs.lemmas.List.Elements.{Contains-append_left, Contains-push, Contains-push_cases}
use Rattle.fit_base.specs.declared.items.Items.{Items}
use Rattle.fit_base.specs.declared.number.Order.TheVariants.{Little}
use Rattle.fit_record.specs.declared.definition.FieldDef.{FieldDef}
use Rattle.fit_record.specs.declared.message.Record.{Record}
use Rattle.fit_record.specs.declared.message.Record.TheVariants.{Values as Data}
use Rattle.fit_record.specs.declared.message.Values.{Values}
use Rattle.fit_record.specs.Environment.{only}
use Rattle.fit_record.specs.ReadMessages.{numbers_of}
use Rattle.fit_from_messages.specs.Parts.{items_read}
use Rattle.fit_from_messages.specs.Slots.{SlotsFit}
use Rattle.fit_from_messages.specs.declared.alone.LoneDefinition.{LoneDefinition}
use Rattle.fit_from_messages.specs.declared.slot.Slot.{Slot}
use Rattle.fit_writer.specs.inner.Places.{IsLone}
use Rattle.fit_writer.specs.Describing.{HasIndex, index_said, items_of}
use Rattle.fit_record.specs.declared.environment.Defined.{Defined}
use Rattle.fit_writer.proofs.ReadThere.{read_there}
use Rattle.fit_writer.specs.Reading.{Form, Reading, reading_after, readings, said_reading, values_by}
use Rattle.fit_writer.specs.Written.{SaysSame}
use Rattle.fit_writer.specs.inner.Puts.{told_after}
use Rattle.fit_writer.specs.inner.Indices.{AreIndices, slot_byte, third_byte, with_index}

-- ---- in the file

map-append : {X Y : Type 0} (f : X → Y) (xs ys : List X) → map f (xs ++ ys) ≡ map f xs ++ map f ys
map-append f [] ys = refl
map-append f (x ∷ xs) ys = ap (λ zs. f x ∷ zs) (map-append f xs ys)

readings_more : (s : List (Record Global)) (v : Values Global) (r : Reading) → reading_after s v ≡ Some r → readings (Data v ∷ s) ≡ readings s ++ r ∷ []
readings_more s v r told = ap (λ (o : Option Reading). readings s ++ unwrap_or (option_map (λ r. r ∷ []) o) []) told

said_more : (s : List (Record Global)) (v : Values Global) (r : Reading) → reading_after s v ≡ Some r
    → map index_said (readings (Data v ∷ s)) ≡ map index_said (readings s) ++ index_said r ∷ []
said_more s v r told = ap (map index_said) (readings_more s v r told) ∙ map-append index_said (readings s) (r ∷ [])

pub has_before : (s : List (Record Global)) (v : Values Global) (r : Reading) (k : ℕ) → reading_after s v ≡ Some r → HasIndex s k → HasIndex (Data v ∷ s) k
has_before s v r k told h =
    subst (λ xs. Contains xs (Some k)) (sym (said_more s v r told)) (Contains-append_left (map index_said (readings s)) (index_said r ∷ []) (Some k) h)

has_now : (s : List (Record Global)) (v : Values Global) (r : Reading) (k : ℕ) → reading_after s v ≡ Some r → index_said r ≡ Some k → HasIndex (Data v ∷ s) k
has_now s v r k told is =
    subst (λ xs. Contains xs (Some k)) (sym (said_more s v r told))
    (subst (λ (o : Option ℕ). Contains (map index_said (readings s) ++ o ∷ []) (Some k)) (sym is) (Contains-push (map index_said (readings s)) (Some k)))

has_cases : (s : List (Record Global)) (v : Values Global) (r : Reading) (k : ℕ) → reading_after s v ≡ Some r → HasIndex (Data v ∷ s) k
    → HasIndex s k ⊎ (index_said r ≡ Some k)
has_cases s v r k told h =
    Contains-push_cases (map index_said (readings s)) (index_said r) (Some k) (subst (λ xs. Contains xs (Some k)) (said_more s v r told) h)

none-there : (n k : ℕ) → get_or (replicate n false) k false ≡ false
none-there zero k = refl
none-there (suc n) zero = refl
none-there (suc n) (suc k) = none-there n k

length-replicate : {X : Type 0} (n : ℕ) (x : X) → length (replicate n x) ≡ n
length-replicate zero x = refl
length-replicate (suc n) x = ap suc (length-replicate n x)

-- none at the start
pub no_indices : AreIndices (replicate 256 false) []
no_indices = (length-replicate 256 false, λ k few. (λ is. absurd (cc (sym (none-there 256 k) ∙ is)), λ h. absurd (omega (arith, h.1))))

-- one message more
pub indices_more : (indices : List Bool) (s : List (Record Global)) (v : Values Global) (r : Reading) (said : Option ℕ) → AreIndices indices s
    → reading_after s v ≡ Some r → index_said r ≡ said → AreIndices (with_index indices said) (Data v ∷ s)
indices_more indices s v r None are told is = (
  are.0,
  λ k few. (
    λ h. has_before s v r k told ((are.1 k few).0 h),
    λ h. elim (has_cases s v r k told h) [
      | inl old ↦ (are.1 k few).1 old
      | inr now ↦ absurd (cc (sym is ∙ now))
    ],
  ),
)
indices_more indices s v r (Some n) are told is = (
  length-set indices n true ∙ are.0,
  λ k few. elim (cases_eq k n) [
    | inl same ↦ (
      λ h. has_now s v r k told (is ∙ ap Some (sym same)),
      λ h. subst (λ (j : ℕ). get_or (set indices n true) j false ≡ true) (sym same)
          (get_or-set_same indices n true false (omega (arith, few, same, are.0))),
    )
    | inr other ↦ (
      λ h. has_before s v r k told ((are.1 k few).0 (sym (get_or-set_other indices n k true false other) ∙ h)),
      λ h. get_or-set_other indices n k true false other ∙ (elim (has_cases s v r k told h) [
        | inl old ↦ (are.1 k few).1 old
        | inr now ↦ (let same : Some n ≡ Some k = sym is ∙ now in absurd (other (cc)))
      ]),
    )
  ],
)

-- ---- of one message, by where its items are

byte_is : (block : List ℕ) (p : ℕ) → p < length block → numbers_of Little 1 1 (drop p block) ≡ get_or block p 0 ∷ []
byte_is block p less = go block p less
  where
    go : (block : List ℕ) (p : ℕ) → p < length block → numbers_of Little 1 1 (drop p block) ≡ get_or block p 0 ∷ []
    go [] p less = absurd (omega (arith, less))
    go (b ∷ block) zero less = ap (λ (n : ℕ). n ∷ []) (let same : b + 256 * 0 ≡ b = omega arith in same)
    go (b ∷ block) (suc p) less = go block p (omega (arith, less))

-- one byte
pub byte_there : (block : List ℕ) (s : Slot) → s.width ≡ 1 → s.count ≡ 1 → s.place < length block → slot_byte block s ≡ Some (get_or block s.place 0)
byte_there block s one count less =
    ap (λ (w : ℕ). cond (w == 1) (only (numbers_of Little w s.count (drop s.place block))) None) one
    ∙ ap (λ (n : ℕ). only (numbers_of Little 1 n (drop s.place block))) count ∙ ap only (byte_is block s.place less)

not_one : (n : ℕ) → (n ≡ 1 → ⊥) → (n == 1) ≡ false
not_one n other = grind (arith, nat_tests)

pub not_a_byte : (block : List ℕ) (s : Slot) → (s.width ≡ 1 → ⊥) → slot_byte block s ≡ None
not_a_byte block s other = ap (λ (b : Bool). cond b (only (items_read block s).bits) None) (not_one s.width other)

not_one_byte : (w n : ℕ) (bytes : List ℕ) → (n ≡ 1 → ⊥) → only (numbers_of Little w n bytes) ≡ None
not_one_byte w zero bytes other = refl
not_one_byte w (suc zero) bytes other = absurd (other refl)
not_one_byte w (suc (suc n)) bytes other = refl

only_none : (b : Bool) (o : Option ℕ) → o ≡ None → cond b o None ≡ None
only_none true o is = is
only_none false o is = refl

pub not_alone : (block : List ℕ) (s : Slot) → (s.count ≡ 1 → ⊥) → slot_byte block s ≡ None
not_alone block s other = only_none (s.width == 1) (only (items_read block s).bits) (not_one_byte s.width s.count (drop s.place block) other)

-- the first field 3
pub third_is : (block : List ℕ) (fields : List FieldDef) (slots : List Slot) → length fields ≤ length slots
    → option_and_then (λ (i : Items Global). if i.width == 1 then only i.bits else None)
    (items_of 3 (zip fields (map (items_read block) (take (length fields) slots)))) ≡ third_byte block fields slots
third_is block [] slots long = refl
third_is block (f ∷ fields) [] long = absurd (omega (arith, long))
third_is block (f ∷ fields) (s ∷ slots) long = go (f.number == 3) (third_is block fields slots (omega (arith, long)))
  where
    go : (b : Bool) → option_and_then (λ (i : Items Global). if i.width == 1 then only i.bits else None)
        (items_of 3 (zip fields (map (items_read block) (take (length fields) slots)))) ≡ third_byte block fields slots
        → option_and_then (λ (i : Items Global). if i.width == 1 then only i.bits else None)
        (cond b (Some (items_read block s)) (items_of 3 (zip fields (map (items_read block) (take (length fields) slots)))))
        ≡ cond b (slot_byte block s) (third_byte block fields slots)
    go true rest = refl
    go false rest = rest

third_walk : (block : List ℕ) (fields : List FieldDef) (slots : List Slot) (n : ℕ) (d : FieldDef) (e : Slot) → length fields ≤ length slots → n < length fields
    → third_byte block (drop n fields) (drop n slots)
    ≡ cond ((get_or fields n d).number == 3) (slot_byte block (get_or slots n e)) (third_byte block (drop (suc n) fields) (drop (suc n) slots))
third_walk block [] slots n d e long less = absurd (omega (arith, less))
third_walk block (f ∷ fields) [] n d e long less = absurd (omega (arith, long))
third_walk block (f ∷ fields) (s ∷ slots) zero d e long less = refl
third_walk block (f ∷ fields) (s ∷ slots) (suc n) d e long less = third_walk block fields slots n d e (omega (arith, long)) (omega (arith, less))

pub third_walked : (block : List ℕ) (fields : List FieldDef) (slots : List Slot) (n : ℕ) (d : FieldDef) (e : Slot) → length fields ≤ length slots
    → n < length fields → third_byte block (drop n fields) (drop n slots)
    ≡ cond ((get_or fields n d).number == 3) (slot_byte block (get_or slots n e)) (third_byte block (drop (n + 1) fields) (drop (n + 1) slots))
third_walked block fields slots n d e long less = rw (add-one n) (third_walk block fields slots n d e long less)

pub third_over : (block : List ℕ) (fields : List FieldDef) (slots : List Slot) (n : ℕ) → length fields ≤ n
    → third_byte block (drop n fields) (drop n slots) ≡ None
third_over block [] slots zero past = refl
third_over block [] slots (suc n) past = refl
third_over block (f ∷ fields) slots zero past = absurd (omega (arith, past))
third_over block (f ∷ fields) [] (suc n) past = no_slots (drop n fields)
  where
    no_slots : (fs : List FieldDef) → third_byte block fs [] ≡ None
    no_slots [] = refl
    no_slots (f ∷ fs) = refl
third_over block (f ∷ fields) (s ∷ slots) (suc n) past = third_over block fields slots n (omega (arith, past))

pub not_third : (n : ℕ) → (n ≡ 3 → ⊥) → (n == 3) ≡ false
not_third n other = grind (arith, nat_tests)

pub is_third : (n : ℕ) → n ≡ 3 → (n == 3) ≡ true
is_third n same = grind (arith, nat_tests)

-- ---- of a message that is put

pub put_indices : (indices new : List Bool) (s after : List (Record Global)) (f : Form) (block : List ℕ) (local : ℕ) (offset : Option ℕ) → AreIndices indices s
    → ((p : Defined Global) × SaysSame s local f p) → new ≡ with_index indices (index_said (said_reading f block))
    → after ≡ Data (values_by f block local offset) ∷ s → AreIndices new after
put_indices indices new s after f block local offset are same noted is =
    subst (λ (xs : List Bool). AreIndices xs after) (sym noted)
    (subst (λ (rs : List (Record Global)). AreIndices (with_index indices (index_said (said_reading f block))) rs) (sym is)
    (indices_more indices s (values_by f block local offset) (told_after s f block offset) (index_said (said_reading f block)) are
    (read_there s local f block offset same.0 same.1) refl))

-- ---- of a form

-- there is a slot for each field
slots_for : (fields : List FieldDef) (others : List (ℕ × ℕ)) (slots : List Slot)
    → SlotsFit (map (λ (f : FieldDef). (f.code, f.size)) fields ++ others) slots → length fields ≤ length slots
slots_for [] others slots fit = omega arith
slots_for (f ∷ fields) others [] fit = absurd fit
slots_for (f ∷ fields) others (s ∷ slots) fit = omega (arith, slots_for fields others slots fit.2)

pub fields_within : (d : LoneDefinition) → IsLone d → length d.definition.fields ≤ length d.slots
fields_within d lone = slots_for d.definition.fields _ d.slots lone.slots_fit

is_207 : (n : ℕ) → n ≡ 207 → (n == 207) ≡ true
is_207 n same = grind (arith, nat_tests)

isn't_207 : (n : ℕ) → (n ≡ 207 → ⊥) → (n == 207) ≡ false
isn't_207 n other = grind (arith, nat_tests)

pub said_index : (f : Form) (block : List ℕ) → f.definition.global ≡ 207 → length f.definition.fields ≤ length f.slots
    → index_said (said_reading f block) ≡ third_byte block f.definition.fields f.slots
said_index f block is long =
    ap (λ (b : Bool). cond b (option_and_then (λ (i : Items Global). if i.width == 1 then only i.bits else None)
    (items_of 3 (zip f.definition.fields (map (items_read block) (take (length f.definition.fields) f.slots))))) None) (is_207 f.definition.global is)
    ∙ third_is block f.definition.fields f.slots long

pub said_none : (f : Form) (block : List ℕ) → (f.definition.global ≡ 207 → ⊥) → index_said (said_reading f block) ≡ None
said_none f block other =
    ap (λ (b : Bool). cond b (option_and_then (λ (i : Items Global). if i.width == 1 then only i.bits else None)
    (items_of 3 (zip f.definition.fields (map (items_read block) (take (length f.definition.fields) f.slots))))) None) (isn't_207 f.definition.global other)
