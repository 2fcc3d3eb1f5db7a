-- The numbers of the table by the places of their fields in the bytes of a message.
use Rattle.fit_table.proofs.Common.{◌≡◌, ◌∙◌, ◌+◌, ◌-◌, ◌/◌, ◌^◌, ◌≤◌, suc, Bool, true, false, length, take, drop, get_or, refl, sym, ap, subst}
use Rattle.fit_table.proofs.Common.{[], ◌∷◌, ◌||◌}
use Rattle.fit_table.proofs.Common.{arith, add-one, eq-eqb, inl, inr, ◌&&◌, not, nat_lt, option_and_then, slice_get, IsSomeAnd, Global, cases_Bool, ne_eqb}
use Rattle.fit_table.proofs.Common.{Items, Order, base_type, item_width, twos_complement, FieldDef, MessageDef, Values, first_field, field, Meaning}
use Rattle.fit_table.proofs.Common.{first_number, known_number}
use Rattle.fit_table.proofs.Common.{valid_number, item_text, IsFormOf, amount_text, value_text, IsFirst, items_at, shapes}
use Rattle.fit_table.proofs.Common.{take-take}
use Rattle.fit_table.proofs.Common.{lt-ltb, degrees_text, take-append-drop, length-take, IsBytes}
use Rattle.std.proofs.Common.{◌==◌, ◌<◌, ℕ, List, Option, Some, None, ◌⊎◌}
use Rattle.std.proofs.Math.Seq.{drop-cons}
use Rattle.std.proofs.Math.ListN.{length-drop}
use Rattle.std.proofs.lemmas.List.Sums.{sum_by-cons}
use Rattle.std.specs.List.{list_any}
use Rattle.std.specs.Prelude.{option_map, ℤ, pos, if◌then◌else◌}
use Rattle.fit_base.proofs.ByteLists.{IsBytes-back, IsBytes-front}
use Rattle.fit_base.specs.Numbers.{number}
use Rattle.fit_base.specs.declared.code.Class.TheVariants.{Signed, Unsigned}
use Rattle.fit_record.specs.ReadMessages.{field_from, fields_from, numbers_of}
use Rattle.fit_record.specs.Records.{sizes}
use Rattle.fit_numbers.specs.FixedText.{fixed_text}
use Rattle.fit_cells.proofs.ClassFacts.{code_width}
use Rattle.fit_cells.specs.declared.form.NumberForm.{NumberForm}
use Rattle.fit_table.specs.Degrees.{degrees_of}
use Rattle.fit_table.specs.declared.columns.Spot.{Spot}
use Rattle.fit_table.specs.inner.TableColumns.{HasItem, HaveNone, IsIn, IsSpot, IsSpotAt, degrees_of_first, held_number, meant_number}
use Rattle.fit_texts.proofs.ItemFacts.{lone_below}

-- ---- the first field of a number

-- the first field of this number in the bytes of fields
abbrev pub first_in : Order → List FieldDef → List ℕ → ℕ → Option (FieldDef × Items Global)
first_in o fields bytes number = first_field fields (fields_from o (shapes fields) bytes) number

-- the items of a field whose bytes begin these
abbrev pub items_of : Order → FieldDef → List ℕ → Items Global
items_of o f bytes = field_from o (f.code, f.size) (take f.size bytes)

pub passed : (o : Order) (fields : List FieldDef) (bytes : List ℕ) (number i : ℕ) (d : FieldDef) → i < length fields
    → ((get_or fields i d).number ≡ number → ⊥)
    → first_in o (drop i fields) bytes number ≡ first_in o (drop (i + 1) fields) (drop (get_or fields i d).size bytes) number
passed o fields bytes number i d h e =
    ap (λ fs. first_in o fs bytes number) (drop-cons fields i d h) ∙ rw (ne_eqb (get_or fields i d).number number e, add-one i) refl

-- a field that has the number is the first one of those from it on
pub found_in : (o : Order) (fields : List FieldDef) (bytes : List ℕ) (number i : ℕ) (d : FieldDef) → i < length fields → (get_or fields i d).number ≡ number
    → first_in o (drop i fields) bytes number ≡ Some (get_or fields i d, items_of o (get_or fields i d) bytes)
found_in o fields bytes number i d h e =
    ap (λ fs. first_in o fs bytes number) (drop-cons fields i d h) ∙ rw (eq-eqb (get_or fields i d).number number e) refl

none_in : (o : Order) (fields : List FieldDef) (bytes : List ℕ) (number : ℕ) → list_any (λ (f : FieldDef). f.number == number) fields ≡ false
    → first_in o fields bytes number ≡ None
none_in o [] bytes number none = refl
none_in o (f ∷ fields) bytes number none = elim (cases_Bool (f.number == number)) [
  | inl is ↦ cc (sym none ∙ ap (λ (b : Bool). b || list_any (λ (g : FieldDef). g.number == number) fields) is)
  | inr other ↦ rw other (none_in o fields (drop f.size bytes) number (rw other at none))
]

pub have_none : (fields : List FieldDef) (number : ℕ) → list_any (λ (f : FieldDef). f.number == number) fields ≡ false → HaveNone fields number
have_none fields number none o bytes = none_in o fields bytes number none

pub sizes_left : (fields : List FieldDef) (i : ℕ) (d : FieldDef) → i < length fields
    → sizes (shapes (drop i fields)) ≡ (get_or fields i d).size + sizes (shapes (drop (i + 1) fields))
sizes_left fields i d h =
    let f = get_or fields i d in
    ap (λ fs. sizes (shapes fs)) (drop-cons fields i d h) ∙ sum_by-cons (λ (g : ℕ × ℕ). g.1) (f.code, f.size) (shapes (drop (suc i) fields))
    ∙ ap (λ k. f.size + sizes (shapes (drop k fields))) (sym (add-one i))

-- the spot of a field that is the first of its number
pub first_spot : (fields : List FieldDef) (number offset : ℕ) (f : FieldDef) (spot : Option Spot)
    → ((o : Order) (bytes : List ℕ) → first_in o fields bytes number ≡ Some (f, items_of o f (drop offset bytes)))
    → f.number ≡ number → offset + f.size ≤ sizes (shapes fields) → IsSpotAt offset f spot → IsSpot fields number spot
first_spot fields number offset f None finds is within placed = λ o bytes. ap held_number (finds o bytes) ∙ placed o (take f.size (drop offset bytes))
first_spot fields number offset f (Some s) finds is within placed = record {
  finds = subst (λ (k : ℕ). (o : Order) (bytes : List ℕ) → first_in o fields bytes number ≡ Some (s.field, items_of o s.field (drop k bytes))) (sym placed.0)
      (subst (λ (g : FieldDef). (o : Order) (bytes : List ℕ) → first_in o fields bytes number ≡ Some (g, items_of o g (drop offset bytes)))
      (sym placed.1) finds);
  numbered = ap (λ (g : FieldDef). g.number) placed.1 ∙ is;
  within = omega (arith, within, placed.0, ap (λ (g : FieldDef). g.size) placed.1);
  item = subst HasItem (sym placed.1) placed.2;
}

-- it is in the bytes of a message that are long enough
pub is_in : (fields : List FieldDef) (number : ℕ) (s : Spot) (bytes : List ℕ) → IsFirst fields number s → sizes (shapes fields) ≤ length bytes → IsIn s bytes
is_in fields number s bytes first within = record { item = first.item; within = omega (arith, first.within, within) }

-- ---- the first item of a field

some_items : (w size : ℕ) → (w ≡ 1) ⊎ (w ≡ 2) ⊎ (w ≡ 4) ⊎ (w ≡ 8) → w ≤ size → size / w ≡ suc (size / w - 1)
some_items w size known room = elim known [
  | inl e ↦ ap (λ (k : ℕ). size / k) e ∙ omega (arith, e, room) ∙ ap (λ (k : ℕ). suc (size / k - 1)) (sym e)
  | inr (inl e) ↦ ap (λ (k : ℕ). size / k) e ∙ omega (arith, e, room) ∙ ap (λ (k : ℕ). suc (size / k - 1)) (sym e)
  | inr (inr (inl e)) ↦ ap (λ (k : ℕ). size / k) e ∙ omega (arith, e, room) ∙ ap (λ (k : ℕ). suc (size / k - 1)) (sym e)
  | inr (inr (inr e)) ↦ ap (λ (k : ℕ). size / k) e ∙ omega (arith, e, room) ∙ ap (λ (k : ℕ). suc (size / k - 1)) (sym e)
]

one_of : (f : FieldDef) (o : Order) (w : ℕ) (bytes : List ℕ) → item_width f.code f.size ≡ w → f.size / w ≡ suc (f.size / w - 1) → w ≤ f.size
    → first_number f (items_of o f bytes) ≡ valid_number f.code w (number o (take w bytes))
one_of f o w bytes own some room =
    ap (λ (k : ℕ). option_and_then (valid_number f.code k) (slice_get (numbers_of o k (f.size / k) (take f.size bytes)) 0)) own
    ∙ ap (λ (n : ℕ). option_and_then (valid_number f.code w) (slice_get (numbers_of o w n (take f.size bytes)) 0)) some
    ∙ ap (λ (b : List ℕ). valid_number f.code w (number o b)) (take-take w f.size bytes room)

-- the number of the first item at a spot
pub item_number : (s : Spot) (o : Order) (w : ℕ) (bytes : List ℕ) (bits : ℕ) → HasItem s.field → w ≡ (base_type s.field.code).width
    → bits ≡ number o (take w (drop s.offset bytes)) → first_number s.field (items_at s o bytes) ≡ valid_number s.field.code w bits
item_number s o w bytes bits has own is =
    let f = s.field in
    let room = subst (λ (k : ℕ). k ≤ f.size) (sym own) has.room in
    let known = subst (λ (k : ℕ). (k ≡ 1) ⊎ (k ≡ 2) ⊎ (k ≡ 4) ⊎ (k ≡ 8)) (sym own) (code_width f.code) in
    one_of f o w (drop s.offset bytes) (has.width ∙ sym own) (some_items w f.size known room) room ∙ ap (valid_number f.code w) (sym is)

-- it has the width of its form
pub item_below : (o : Order) (bytes : List ℕ) (offset w n : ℕ) → IsBytes bytes → offset + w ≤ length bytes → n ≡ number o (take w (drop offset bytes))
    → n < 256 ^ w
item_below o bytes offset w n are within is =
    let rest = drop offset bytes in
    let back : IsBytes rest = IsBytes-back (take offset bytes) rest (subst IsBytes (sym (take-append-drop offset bytes)) are) in
    let front : IsBytes (take w rest) = IsBytes-front (take w rest) (drop w rest) (subst IsBytes (sym (take-append-drop w rest)) back) in
    lone_below o (take w rest) w n front (omega (arith, length-take w rest, length-drop offset bytes, within)) is

-- ---- the number of an item

abbrev pub amount_in : Meaning → Option ℤ → Option (List ℕ)
amount_in m raw = option_map (λ (r : ℤ). amount_text r m.scale m.offset) raw

-- an item that isn't the invalid one has the number that is shown of it
pub value_shown : (code : ℕ) (form : NumberForm) (m : Meaning) (bits : ℕ) (text : List ℕ) → IsFormOf code (Some m) form → bits < 256 ^ form.width
    → (bits ≡ form.invalid → ⊥) → text ≡ item_text (base_type code).class code (Some m) form.width bits
    → amount_in m (valid_number code form.width bits) ≡ Some text
value_shown code form m bits text is small other shown =
    let wide : (form.width == (base_type code).width) ≡ true = eq-eqb form.width (base_type code).width is.width in
    let less : nat_lt bits (256 ^ form.width) ≡ true = lt-ltb bits (256 ^ form.width) small in
    let valid : (bits == (base_type code).invalid) ≡ false = ne_eqb bits (base_type code).invalid (λ e. other (e ∙ sym is.invalid)) in
    let usual : ((form.width == (base_type code).width && nat_lt bits (256 ^ form.width)) && not (bits == (base_type code).invalid)) ≡ true =
    rw (wide, less, valid) refl in
    elim (cases_Bool form.signed) [
      | inl signed ↦
          let class : (base_type code).class ≡ Signed = rw signed at is.class in
          let own : text ≡ amount_text (twos_complement form.width bits) m.scale m.offset = rw (class, valid) at shown in
          rw (usual, class) (ap Some (sym own))
      | inr plain ↦
          let class : (base_type code).class ≡ Unsigned = rw plain at is.class in
          let own : text ≡ amount_text (pos bits) m.scale m.offset = rw (class, valid) at shown in
          rw (usual, class) (ap Some (sym own))
    ]

and_none : (a b : Bool) → b ≡ true → (a && not b) ≡ false
and_none true b e = rw e refl
and_none false b e = refl

-- the invalid one has none
pub value_hidden : (code : ℕ) (form : NumberForm) (m : Meaning) (bits : ℕ) → IsFormOf code (Some m) form → bits ≡ form.invalid
    → amount_in m (valid_number code form.width bits) ≡ None
value_hidden code form m bits is none =
    let test = and_none (form.width == (base_type code).width && nat_lt bits (256 ^ form.width)) (bits == (base_type code).invalid)
    (eq-eqb bits (base_type code).invalid (none ∙ is.invalid)) in
    rw test refl

-- ---- the number of the first field

abbrev pub amount_of : Option (ℤ × Meaning) → Option (List ℕ)
amount_of known = option_map (λ (x : ℤ × Meaning). amount_text x.0 x.1.scale x.1.offset) known

pub of_raw : (raw : Option ℤ) (meaning : Option Meaning) (m : Meaning) → meaning ≡ Some m
    → amount_in m raw ≡ amount_of (option_and_then (λ r. option_map (λ n. (r, n)) meaning) raw)
of_raw None meaning m e = refl
of_raw (Some r) meaning m e = rw e refl

-- what the profile says of a field with a form
pub some_meaning : (code : ℕ) (form : NumberForm) (meaning : Option Meaning) → IsSomeAnd meaning (λ m. IsFormOf code (Some m) form)
    → (m : Meaning) × (meaning ≡ Some m) × IsFormOf code (Some m) form
some_meaning code form None known = absurd known
some_meaning code form (Some m) known = (m, refl, known)

-- the first field of a number in the bytes of a message
pub first_at : (s : Spot) (o : Order) (bytes : List ℕ) (d : MessageDef Global) (v : Values Global) (number : ℕ) → IsFirst d.fields number s
    → v.fields ≡ fields_from o (shapes d.fields) bytes → first_field d.fields v.fields number ≡ Some (s.field, items_at s o bytes)
first_at s o bytes d v number first are = ap (λ (items : List (Items Global)). first_field d.fields items number) are ∙ first.finds o bytes

abbrev meant_as : Option Meaning → FieldDef × Items Global → Option (ℤ × Meaning)
meant_as meaning g = option_and_then (λ raw. option_map (λ m. (raw, m)) meaning) (first_number g.0 g.1)

-- what the items of the first field of a number hold, and what the profile says of it
pub meant_first : (d : MessageDef Global) (v : Values Global) (number : ℕ) (f : FieldDef) (i : Items Global) → d.global ≡ 20
    → first_field d.fields v.fields number ≡ Some (f, i) → meant_number number f i ≡ known_number d v number
meant_first d v number f i global first =
    ap (λ (g : ℕ). meant_as (field g number) (f, i)) (sym global) ∙ ap (option_and_then (meant_as (field d.global number))) (sym first)

number_none : (meaning : Option Meaning) (first : Option (FieldDef × Items Global)) → held_number first ≡ None
    → amount_of (option_and_then (meant_as meaning) first) ≡ None
number_none meaning None none = refl
number_none meaning (Some g) none =
    ap (λ (raw : Option ℤ). amount_of (option_and_then (λ r. option_map (λ n. (r, n)) meaning) raw)) none

pub no_value : (d : MessageDef Global) (v : Values Global) (number : ℕ) → held_number (first_field d.fields v.fields number) ≡ None
    → value_text d v number ≡ None
no_value d v number none = number_none (field d.global number) (first_field d.fields v.fields number) none

pub placed_degrees : (d : MessageDef Global) (v : Values Global) (number : ℕ) (f : FieldDef) (i : Items Global)
    → first_field d.fields v.fields number ≡ Some (f, i)
    → degrees_text d v number ≡ (if f.code == 0x85 then option_map (λ s. fixed_text (degrees_of s) 7) (first_number f i) else None)
placed_degrees d v number f i first = ap degrees_of_first first

pub degrees_none : (first : Option (FieldDef × Items Global)) → held_number first ≡ None → degrees_of_first first ≡ None
degrees_none None none = refl
degrees_none (Some g) none = elim (cases_Bool (g.0.code == 0x85)) [
  | inl is ↦ rw is (ap (option_map (λ (s : ℤ). fixed_text (degrees_of s) 7)) none)
  | inr other ↦ rw other refl
]

pub degrees_of_other : (f : FieldDef) (i : Items Global) → (f.code ≡ 0x85 → ⊥) → degrees_of_first (Some (f, i)) ≡ None
degrees_of_other f i other = rw (ne_eqb f.code 0x85 other) refl

-- the position at a spot
pub position_at : (s : Spot) (o : Order) (bytes : List ℕ) (bits : ℕ) → HasItem s.field → s.field.code ≡ 0x85
    → bits ≡ number o (take 4 (drop s.offset bytes))
    → option_map (λ s. fixed_text (degrees_of s) 7) (valid_number 0x85 4 bits)
    ≡ (if s.field.code == 0x85 then option_map (λ s. fixed_text (degrees_of s) 7) (first_number s.field (items_at s o bytes)) else None)
position_at s o bytes bits has code is =
    rw (eq-eqb s.field.code 0x85 code) (ap (λ (n : Option ℤ). option_map (λ s. fixed_text (degrees_of s) 7) n)
    (ap (λ (c : ℕ). valid_number c 4 bits) (sym code)
    ∙ sym (item_number s o 4 bytes bits has (ap (λ (c : ℕ). (base_type c).width) (sym code)) is)))
