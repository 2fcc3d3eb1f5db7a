-- What a message that describes changes of what is described, and what it leaves.
use Rattle.std.proofs.Common.{◌≡◌, ◌∙◌, ℕ, inl, inr, Bool, true, false, cond, List, [], ◌∷◌, ◌++◌, length, reverse, refl, sym, ap, ap₂}
use Rattle.std.proofs.Common.{subst, arith}
use Rattle.std.proofs.Common.{eqb-true}
use Rattle.std.proofs.lemmas.Bool.{and_parts, cases_Bool}
use Rattle.std.proofs.lemmas.Bool.Decides.{nat_tests}
use Rattle.std.proofs.lemmas.List.{reverse-append, reverse-reverse}
use Rattle.std.proofs.lemmas.List.Folds.{list_all-append}
use Rattle.std.specs.BTreeMap.{insert_entry, is_at}
use Rattle.std.specs.Global.{Global}
use Rattle.std.specs.List.{list_all}
use Rattle.std.specs.Map.{lookup}
use Rattle.std.specs.Ordering.{is_eq, match_ordering, nat_cmp, ordering_then}
use Rattle.std.specs.Prelude.{◌==◌, ◌&&◌, ◌⊎◌, if◌then◌else◌, Option, Some, None, not, option_and_then, option_map, unwrap_or, zip}
use Rattle.std.specs.Str.{is_utf8}
use Rattle.std.specs.declared.cmp.Ordering.{Ordering}
use Rattle.std.specs.declared.cmp.Ordering.TheVariants.{Less, Equal, Greater}
use Rattle.fit_base.specs.declared.items.Items.{Items}
use Rattle.fit_record.specs.declared.definition.DevDef.{DevDef}
use Rattle.fit_record.specs.declared.definition.FieldDef.{FieldDef}
use Rattle.fit_record.specs.declared.definition.MessageDef.{MessageDef}
use Rattle.fit_record.specs.declared.environment.Defined.{Defined}
use Rattle.fit_record.specs.declared.learn.Description.{Description}
use Rattle.fit_record.specs.declared.learn.DevKey.{DevKey}
use Rattle.fit_record.specs.declared.message.Record.{Record}
use Rattle.fit_record.specs.declared.message.Record.TheVariants.{Values as Data}
use Rattle.fit_record.specs.declared.message.Values.{Values}
use Rattle.fit_record.specs.Environment.{defined_at, describe, description, dev_code, dev_key_cmp, first_items, only, only_byte}
use Rattle.fit_profile.specs.Described.{Naming, before_closing_zeros, is_printable, naming, naming_by, naming_of, namings_at, printable_text, text_field}
use Rattle.fit_profile.specs.Described.{without_zeros}
use Rattle.fit_profile.specs.Looks.{first_field, known}
use Rattle.fit_profile.specs.Times.{time}
use Rattle.fit_writer.specs.Describing.{CanBeSaid, DevField, IsAdded, IsAlike, IsDescribedField, IsReadBack, description_reading, index_reading, text_fields}
use Rattle.fit_writer.specs.Reading.{Reading, reading_by}
use Rattle.fit_writer.specs.Written.{with_definition}

-- ---- codes by keys

equal-is : (a b : ℕ) → is_eq (nat_cmp a b) ≡ (a == b)
equal-is a b = grind (arith, nat_tests)

both-equal : (c o : Ordering) → is_eq (ordering_then c o) ≡ (is_eq c && is_eq o)
both-equal Less o = refl
both-equal Equal o = refl
both-equal Greater o = refl

abbrev same_key : DevKey → DevKey → Bool
same_key a b = (a.index == b.index) && (a.number == b.number)

at_key : (a b : DevKey) → is_at (dev_key_cmp a) b ≡ same_key a b
at_key a b = both-equal (nat_cmp a.index b.index) (nat_cmp a.number b.number) ∙ ap₂ (λ x y. x && y) (equal-is a.index b.index) (equal-is a.number b.number)

keys_same : (a b : DevKey) → same_key a b ≡ true → (a.index ≡ b.index) × (a.number ≡ b.number)
keys_same a b is =
    let parts = and_parts (a.index == b.index) (a.number == b.number) is in (eqb-true a.index b.index parts.0, eqb-true a.number b.number parts.1)

equal_test : (a b : ℕ) → a ≡ b → (a == b) ≡ true
equal_test a b same = grind (arith, nat_tests)

other_test : (a b : ℕ) → (a ≡ b → ⊥) → (a == b) ≡ false
other_test a b other = grind (arith, nat_tests)

same_keys : (a b : DevKey) → a.index ≡ b.index → a.number ≡ b.number → same_key a b ≡ true
same_keys a b index number = ap₂ (λ (x y : Bool). x && y) (equal_test a.index b.index index) (equal_test a.number b.number number)

twice : {X : Type 0} (b : Bool) (x y : X) (o : Option X) → cond b (Some x) o ≡ cond b (Some x) (cond b (Some y) o)
twice true x y o = refl
twice false x y o = refl

turned : {X : Type 0} (a b : Bool) (x y : X) (o : Option X) → (a ≡ true → b ≡ true → ⊥)
    → cond a (Some x) (cond b (Some y) o) ≡ cond b (Some y) (cond a (Some x) o)
turned true true x y o never = absurd (never refl refl)
turned true false x y o never = refl
turned false true x y o never = refl
turned false false x y o never = refl

is_equal : (k e : DevKey) → dev_key_cmp k e ≡ Equal → same_key k e ≡ true
is_equal k e is = sym (at_key k e) ∙ ap is_eq is

isn't_equal : (k e : DevKey) → dev_key_cmp k e ≡ Greater → same_key k e ≡ false
isn't_equal k e is = sym (at_key k e) ∙ ap is_eq is

-- a code that is put is there for its key, and the others are as they were
code_put : (es : List (DevKey × ℕ)) (k : DevKey) (v : ℕ) (q : DevKey)
    → lookup (is_at (dev_key_cmp q)) (insert_entry dev_key_cmp es k v) ≡ cond (same_key q k) (Some v) (lookup (is_at (dev_key_cmp q)) es)
code_put [] k v q = ap (λ (b : Bool). cond b (Some v) None) (at_key q k)
code_put (e ∷ es) k v q = by (dev_key_cmp k e.0) refl (code_put es k v q)
  where
    by : (r : Ordering) → dev_key_cmp k e.0 ≡ r
        → lookup (is_at (dev_key_cmp q)) (insert_entry dev_key_cmp es k v) ≡ cond (same_key q k) (Some v) (lookup (is_at (dev_key_cmp q)) es)
        → lookup (is_at (dev_key_cmp q)) (match_ordering r ((k, v) ∷ e ∷ es) ((e.0, v) ∷ es) (e ∷ insert_entry dev_key_cmp es k v))
        ≡ cond (same_key q k) (Some v) (cond (is_at (dev_key_cmp q) e.0) (Some e.1) (lookup (is_at (dev_key_cmp q)) es))
    by Less is later = ap (λ (b : Bool). cond b (Some v) (cond (is_at (dev_key_cmp q) e.0) (Some e.1) (lookup (is_at (dev_key_cmp q)) es))) (at_key q k)
    by Equal is later =
        let parts = keys_same k e.0 (is_equal k e.0 is) in
        let same : same_key q k ≡ is_at (dev_key_cmp q) e.0 =
        ap₂ (λ (i n : ℕ). (q.index == i) && (q.number == n)) parts.0 parts.1 ∙ sym (at_key q e.0) in
        twice (is_at (dev_key_cmp q) e.0) v e.1 (lookup (is_at (dev_key_cmp q)) es)
        ∙ ap (λ (b : Bool). cond b (Some v) (cond (is_at (dev_key_cmp q) e.0) (Some e.1) (lookup (is_at (dev_key_cmp q)) es))) (sym same)
    by Greater is later =
        ap (cond (is_at (dev_key_cmp q) e.0) (Some e.1)) later
        ∙ turned (is_at (dev_key_cmp q) e.0) (same_key q k) e.1 v (lookup (is_at (dev_key_cmp q)) es)
        (λ there here. let one = keys_same q e.0 (sym (at_key q e.0) ∙ there) in
        let two = keys_same q k here in
        absurd (cc (sym (isn't_equal k e.0 is) ∙ same_keys k e.0 (sym two.0 ∙ one.0) (sym two.1 ∙ one.1))))

-- ---- what a message describes, by what a reader is told of it

pub some_inside : {X Y : Type 0} (g : X → Y) (o : Option X) (y : Y) → option_map g o ≡ Some y → (x : X) × (o ≡ Some x) × (g x ≡ y)
some_inside g None y is = absurd (cc is)
some_inside g (Some x) y is = (x, refl, some_same (g x) y is)
  where
    some_same : {Y : Type 0} (a b : Y) → Some a ≡ Some b → a ≡ b
    some_same a b is = cc

abbrev field_of : ℕ → List (FieldDef × Items Global) → Option (FieldDef × Items Global)
field_of number [] = None
field_of number (f ∷ fields) = if f.0.number == number then Some f else field_of number fields

first_is : (fs : List FieldDef) (is : List (Items Global)) (number : ℕ) → first_field fs is number ≡ field_of number (zip fs is)
first_is [] is number = refl
first_is (f ∷ fs) [] number = refl
first_is (f ∷ fs) (i ∷ is) number = ap (cond (f.number == number) (Some (f, i))) (first_is fs is number)

items_are : (fs : List FieldDef) (is : List (Items Global)) (number : ℕ)
    → first_items fs is number ≡ option_map (λ (f : FieldDef × Items Global). f.1) (field_of number (zip fs is))
items_are [] is number = refl
items_are (f ∷ fs) [] number = refl
items_are (f ∷ fs) (i ∷ is) number = go (f.number == number) (items_are fs is number)
  where
    go : (b : Bool) → first_items fs is number ≡ option_map (λ (f : FieldDef × Items Global). f.1) (field_of number (zip fs is))
        → cond b (Some i) (first_items fs is number)
        ≡ option_map (λ (f : FieldDef × Items Global). f.1) (cond b (Some (f, i)) (field_of number (zip fs is)))
    go true rest = refl
    go false rest = rest

-- by all fields
abbrev byte_of : ℕ → List (FieldDef × Items Global) → Option ℕ
byte_of number fields =
    option_and_then (λ (i : Items Global). if i.width == 1 then only i.bits else None)
    (option_map (λ (f : FieldDef × Items Global). f.1) (field_of number fields))

byte_is : (fs : List FieldDef) (is : List (Items Global)) (fields : List (FieldDef × Items Global)) (number : ℕ) → zip fs is ≡ fields
    → only_byte fs is number ≡ byte_of number fields
byte_is fs is fields number same =
    ap (option_and_then (λ (i : Items Global). if i.width == 1 then only i.bits else None))
    (items_are fs is number ∙ ap (λ (xs : List (FieldDef × Items Global)). option_map (λ (f : FieldDef × Items Global). f.1) (field_of number xs)) same)

abbrev said_by : ℕ → Option ℕ → Option ℕ → Option ℕ → Option Description
said_by global first second third =
    if global == 206 then
    option_and_then (λ (index : ℕ). option_and_then (λ (number : ℕ). option_and_then (λ (code : ℕ).
    Some (let s : Description = record { key = record { index = index; number = number }; code = code } in s)) third) second) first
    else None

abbrev text_of : Option (FieldDef × Items Global) → Option (List ℕ)
text_of o = option_and_then (λ (f : FieldDef × Items Global). if f.0.code == 0x07 then printable_text (before_closing_zeros f.1.bits) else None) o

text_is : (d : MessageDef Global) (v : Values Global) (fields : List (FieldDef × Items Global)) (number : ℕ) → zip d.fields v.fields ≡ fields
    → text_field d v number ≡ text_of (field_of number fields)
text_is d v fields number same = ap text_of (first_is d.fields v.fields number ∙ ap (field_of number) same)

-- ---- texts are read back

no_zeros : (bytes : List ℕ) → list_all is_printable bytes ≡ true → without_zeros bytes ≡ bytes
no_zeros [] all = refl
no_zeros (b ∷ bytes) all =
    let parts = and_parts (is_printable b) (list_all is_printable bytes) all in
    ap (λ (t : Bool). cond t (without_zeros bytes) (b ∷ bytes)) (not_zero b parts.0)
  where
    not_zero : (b : ℕ) → is_printable b ≡ true → (b == 0) ≡ false
    not_zero b is = grind (arith, nat_tests)

all_turned : (bytes : List ℕ) → list_all is_printable bytes ≡ true → list_all is_printable (reverse bytes) ≡ true
all_turned [] all = refl
all_turned (b ∷ bytes) all =
    let parts = and_parts (is_printable b) (list_all is_printable bytes) all in
    ap (list_all is_printable) (reverse-append (b ∷ []) bytes) ∙ list_all-append is_printable (reverse bytes) (b ∷ [])
    ∙ ap₂ (λ (x y : Bool). x && (y && true)) (all_turned bytes parts.1) parts.0

all_of_text : (a b c : Bool) (text : List ℕ) → cond ((a && b) && c) (Some text) None ≡ Some text → b ≡ true
all_of_text true true c text is = refl
all_of_text true false c text is = absurd (cc is)
all_of_text false b c text is = absurd (cc is)

read_back : (text : List ℕ) → printable_text text ≡ Some text → printable_text (before_closing_zeros (text ++ 0 ∷ [])) ≡ Some text
read_back text is =
    let all : list_all is_printable text ≡ true =
    all_of_text (not (length text == 0)) (list_all is_printable text) (is_utf8 text) text is in
    ap (λ (bs : List ℕ). printable_text (reverse (without_zeros bs))) (reverse-append text (0 ∷ []))
    ∙ ap (λ (bs : List ℕ). printable_text (reverse bs)) (no_zeros (reverse text) (all_turned text all))
    ∙ ap printable_text (reverse-reverse text) ∙ is

name_read : (d : DevDef) (code : ℕ) (n : Naming) → IsReadBack n.name → text_of (field_of 3 (description_reading d code n).fields) ≡ n.name
name_read d code n back = go n.name n.unit back
  where
    go : (name unit : Option (List ℕ)) → IsReadBack name → text_of (field_of 3 (text_fields 3 name ++ text_fields 8 unit)) ≡ name
    go None None back = refl
    go None (Some unit) back = refl
    go (Some name) unit back = read_back name back.0

unit_read : (d : DevDef) (code : ℕ) (n : Naming) → IsReadBack n.unit → text_of (field_of 8 (description_reading d code n).fields) ≡ n.unit
unit_read d code n back = go n.name n.unit back
  where
    go : (name unit : Option (List ℕ)) → IsReadBack unit → text_of (field_of 8 (text_fields 3 name ++ text_fields 8 unit)) ≡ unit
    go None None back = refl
    go None (Some unit) back = read_back unit back.0
    go (Some name) None back = refl
    go (Some name) (Some unit) back = read_back unit back.0

-- ---- one message more

-- what is described doesn't depend on definition messages
same_defined : (defined : Option (MessageDef Global)) (s : List (Record Global)) (x : DevField) → IsDescribedField s x
    → IsDescribedField (with_definition defined s) x
same_defined None s x h = h
same_defined (Some d) s x h = h

abbrev key_of : DevDef → DevKey
key_of d = record { index = d.index; number = d.number }

module _ (s : List (Record Global)) (v : Values Global) (p : Defined Global) (there : defined_at (known s) v.local ≡ Some p)
  where
    code_after : (x : DevDef) → dev_code (known (Data v ∷ s)) x ≡ dev_code (describe (known s) (description p.definition v)) x
    code_after x = ap (λ (o : Option (Defined Global)). dev_code (describe (known s) (option_and_then
        (λ (q : Defined Global). description q.definition v) o)) x) there

    naming_there : (index number : ℕ) → naming_of (Data v ∷ s) index number
        ≡ unwrap_or (option_and_then (λ (t : Description). if (t.key.index == index) && (t.key.number == number) then Some (naming p.definition v) else None)
        (description p.definition v)) (naming_of s index number)
    naming_there index number =
        ap (λ (o : Option (Defined Global)). unwrap_or (option_and_then (λ (q : Defined Global). naming_by q.definition v index number) o)
        (naming_of s index number)) there

    -- a message that describes nothing leaves all as it was
    pub stays_by : description p.definition v ≡ None → (x : DevField) → IsDescribedField s x → IsDescribedField (Data v ∷ s) x
    stays_by none x h = (
      code_after x.0 ∙ ap (λ (o : Option Description). dev_code (describe (known s) o) x.0) none ∙ h.0,
      naming_there x.0.index x.0.number
          ∙ ap (λ (o : Option Description). unwrap_or (option_and_then (λ (t : Description). if (t.key.index == x.0.index) &&
          (t.key.number == x.0.number) then Some (naming p.definition v) else None) o) (naming_of s x.0.index x.0.number)) none
          ∙ h.1,
    )

    -- a description
    module _ (d : DevDef) (code : ℕ) (n : Naming) (is : description p.definition v ≡ Some (record { key = key_of d; code = code }))
        (named : naming p.definition v ≡ n)
      where
        code_now : (x : DevDef) → dev_code (known (Data v ∷ s)) x
            ≡ unwrap_or (cond (same_key (key_of x) (key_of d)) (Some code) (lookup (is_at (dev_key_cmp (key_of x))) (known s).described)) 0x0D
        code_now x =
            code_after x ∙ ap (λ (o : Option Description). dev_code (describe (known s) o) x) is
            ∙ ap (λ (o : Option ℕ). unwrap_or o 0x0D) (code_put (known s).described (key_of d) code (key_of x))

        naming_now : (index number : ℕ) → naming_of (Data v ∷ s) index number
            ≡ unwrap_or (cond ((d.index == index) && (d.number == number)) (Some n) None) (naming_of s index number)
        naming_now index number =
            naming_there index number
            ∙ ap (λ (o : Option Description). unwrap_or (option_and_then (λ (t : Description). if (t.key.index == index) &&
            (t.key.number == number) then Some (naming p.definition v) else None) o) (naming_of s index number)) is
            ∙ ap (λ (m : Naming). unwrap_or (cond ((d.index == index) && (d.number == number)) (Some m) None) (naming_of s index number)) named

        pub said_now : (x : DevField) → d.index ≡ x.0.index → d.number ≡ x.0.number → (code, n) ≡ x.1 → IsDescribedField (Data v ∷ s) x
        said_now x index number same = (
          code_now x.0
              ∙ ap (λ (b : Bool). unwrap_or (cond b (Some code) (lookup (is_at (dev_key_cmp (key_of x.0))) (known s).described)) 0x0D)
              (same_keys (key_of x.0) (key_of d) (sym index) (sym number))
              ∙ ap (λ (t : ℕ × Naming). t.0) same,
          naming_now x.0.index x.0.number
              ∙ ap (λ (b : Bool). unwrap_or (cond b (Some n) None) (naming_of s x.0.index x.0.number)) (same_keys (key_of d) (key_of x.0) index number)
              ∙ ap (λ (t : ℕ × Naming). t.1) same,
        )

        pub others_stay : (x : DevField) → same_key (key_of d) (key_of x.0) ≡ false → IsDescribedField s x → IsDescribedField (Data v ∷ s) x
        others_stay x other h = (
          code_now x.0
              ∙ ap (λ (b : Bool). unwrap_or (cond b (Some code) (lookup (is_at (dev_key_cmp (key_of x.0))) (known s).described)) 0x0D)
              (not_turned (key_of d) (key_of x.0) other)
              ∙ h.0,
          naming_now x.0.index x.0.number
              ∙ ap (λ (b : Bool). unwrap_or (cond b (Some n) None) (naming_of s x.0.index x.0.number)) other
              ∙ h.1,
        )
          where
            not_turned : (a b : DevKey) → same_key a b ≡ false → same_key b a ≡ false
            not_turned a b is = elim (cases_Bool (same_key b a)) [
              | inl same ↦ let parts = keys_same b a same in absurd (cc (sym (same_keys a b (sym parts.0) (sym parts.1)) ∙ is))
              | inr other ↦ other
            ]

-- ---- the messages that are added

-- of an index nothing else is said
pub index_stays : (s t : List (Record Global)) (local index : ℕ) (x : DevField) → IsAdded s t local (index_reading index) → IsDescribedField s x
    → IsDescribedField t x
index_stays s t local index x added h =
    let m : List (Record Global) = with_definition added.defined s in
    let v : Values Global = added.message in
    let inside = some_inside (λ (p : Defined Global). reading_by p.definition p.dev_codes (namings_at m v.local) v (time m (Data v)))
    (defined_at (known m) v.local) (index_reading index) added.told in
    let p : Defined Global = inside.0 in
    let global : p.definition.global ≡ 207 = ap (λ (r : Reading). r.global) inside.2 in
    let none : description p.definition v ≡ None =
    ap (λ (g : ℕ). said_by g (only_byte p.definition.fields v.fields 0) (only_byte p.definition.fields v.fields 1)
    (only_byte p.definition.fields v.fields 2)) global in
    subst (λ (rs : List (Record Global)). IsDescribedField rs x) (sym added.records)
    (stays_by m v p inside.1 none x (same_defined added.defined s x h))

-- a description describes its developer field, and leaves those of another index or number
pub description_says : (s t : List (Record Global)) (local : ℕ) (y x : DevField) → IsAdded s t local (description_reading y.0 y.1.0 y.1.1) → CanBeSaid y.1
    → IsAlike y x → IsDescribedField s x ⊎ ((y.0.index ≡ x.0.index) × (y.0.number ≡ x.0.number)) → IsDescribedField t x
description_says s t local y x added said alike h =
    let d : DevDef = y.0 in
    let code : ℕ = y.1.0 in
    let n : Naming = y.1.1 in
    let m : List (Record Global) = with_definition added.defined s in
    let v : Values Global = added.message in
    let inside = some_inside (λ (p : Defined Global). reading_by p.definition p.dev_codes (namings_at m v.local) v (time m (Data v)))
    (defined_at (known m) v.local) (description_reading d code n) added.told in
    let p : Defined Global = inside.0 in
    let fields : zip p.definition.fields v.fields ≡ (description_reading d code n).fields = ap (λ (r : Reading). r.fields) inside.2 in
    let is : description p.definition v ≡ Some (record { key = key_of d; code = code }) = said_all p.definition v d code n
    (ap (λ (r : Reading). r.global) inside.2) fields in
    let named : naming p.definition v ≡ n = ap₂ (λ (a b : Option (List ℕ)). let k : Naming = record { name = a; unit = b } in k)
    (text_is p.definition v (description_reading d code n).fields 3 fields ∙ name_read d code n said.1)
    (text_is p.definition v (description_reading d code n).fields 8 fields ∙ unit_read d code n said.2) in
    subst (λ (rs : List (Record Global)). IsDescribedField rs x) (sym added.records)
    (elim (cases_Bool (same_key (key_of d) (key_of x.0))) [
      | inl same ↦ let parts = keys_same (key_of d) (key_of x.0) same in
          said_now m v p inside.1 d code n is named x parts.0 parts.1 (alike parts.0 parts.1)
      | inr other ↦ others_stay m v p inside.1 d code n is named x other (elim h [
        | inl old ↦ same_defined added.defined s x old
        | inr parts ↦ absurd (cc (sym (same_keys (key_of d) (key_of x.0) parts.0 parts.1) ∙ other))
      ])
    ])
  where
    said_all : (e : MessageDef Global) (v : Values Global) (d : DevDef) (code : ℕ) (n : Naming) → e.global ≡ 206
        → zip e.fields v.fields ≡ (description_reading d code n).fields
        → description e v ≡ Some (record { key = key_of d; code = code })
    said_all e v d code n global fields =
        ap (λ (g : ℕ). said_by g (only_byte e.fields v.fields 0) (only_byte e.fields v.fields 1) (only_byte e.fields v.fields 2)) global
        ∙ ap (λ (o : Option ℕ). said_by 206 o (only_byte e.fields v.fields 1) (only_byte e.fields v.fields 2))
        (byte_is e.fields v.fields (description_reading d code n).fields 0 fields)
        ∙ ap (λ (o : Option ℕ). said_by 206 (Some d.index) o (only_byte e.fields v.fields 2))
        (byte_is e.fields v.fields (description_reading d code n).fields 1 fields)
        ∙ ap (λ (o : Option ℕ). said_by 206 (Some d.index) (Some d.number) o)
        (byte_is e.fields v.fields (description_reading d code n).fields 2 fields)
