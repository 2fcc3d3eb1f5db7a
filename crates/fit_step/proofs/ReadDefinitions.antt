-- The definition message that bytes spell.
use Rattle.fit_step.proofs.Common.{◌≡◌, ℕ, ◌+◌, ◌*◌, ◌<◌, List, [], ◌∷◌, ◌++◌, length, take, sym, ap, ◌∙◌, subst, arith, lit<, flat_map, option_map}
use Rattle.fit_step.proofs.Common.{unwrap_or, append-nil, length-take-le, number_bytes, FieldDef, Define, Environment, architecture, field_bytes}
use Rattle.fit_step.proofs.Common.{definition_bytes, definition_header, DefinitionFits, IsRecord, length-fields}
use Rattle.fit_step.proofs.HeaderBits.{definition_spelled as header_spelled}
use Rattle.fit_step.proofs.Common.{true, false, IsBytes, IsBytes-take, IsBytes-cons, IsBytes-none, number, number_bytes-number, take-add, drop, local_type}
use Rattle.fit_step.proofs.Common.{new_dev}
use Rattle.fit_step.proofs.Common.{DevDef, MessageDef, Some, dev_field_bytes, has_reserved_bit, is_definition, has_developer_fields, if◌then◌else◌}
use Rattle.fit_step.proofs.Common.{Bool, suc, get_or, refl, append_assoc, flat_map_more, Order, Little, Big}
use Rattle.std.proofs.lemmas.List.{get_or-take}
use Rattle.fit_record.proofs.OneRecord.{same_fields}
use Rattle.fit_record.proofs.RecordLengths.{length-definition}
use Rattle.fit_record.specs.DefinitionLengths.{dev_length}
use Rattle.fit_record.specs.Records.{dev_part}
use Rattle.fit_step.specs.Skipping.{HasDefinition}
use Rattle.fit_step.specs.declared.read_definition.Front.{Front}
use Rattle.fit_step.specs.inner.Definitions.{AreFields, Begins, BeginsWide, BeginsWith, definition_of, definition_spelled, front_spelled}

-- ---- the record

module _ {A : Type 0} (f : Front) (entries bytes : List ℕ) (begins : Begins f entries bytes) (fields : List FieldDef) (are : AreFields f entries fields)
  where
    pub read_fits : DefinitionFits (definition_of {A = A} f fields)
    read_fits = record { local = begins.local; global = begins.global; fields = subst (λ n. n < 256) (sym are.0) begins.count; dev_fields = lit< tt }

    pub read_is_record : (e : Environment A) → IsRecord e (Define (definition_of f fields)) (take (6 + length entries) bytes)
    read_is_record e =
        let header : 0x40 + f.local ≡ 0x40 + f.local + 0 = omega arith in
        let body : List ℕ = f.reserved ∷ architecture f.order ∷ number_bytes f.order 2 f.global ++ length fields ∷ flat_map field_bytes fields in
        let says : definition_spelled f entries ≡ (0x40 + f.local + 0) ∷ body =
        λ i. header i ∷ f.reserved ∷ architecture f.order ∷ number_bytes f.order 2 f.global ++ sym are.0 i ∷ sym are.1 i in
        (read_fits, begins.is ∙ says ∙ ap (λ l. (0x40 + f.local + 0) ∷ l) (sym (append-nil body)))

-- three bytes are one field more
three_bytes : (entry : List ℕ) → length entry ≡ 3 → get_or entry 0 0 ∷ get_or entry 1 0 ∷ get_or entry 2 0 ∷ [] ≡ entry
three_bytes (a ∷ b ∷ c ∷ []) long = refl
three_bytes (a ∷ b ∷ c ∷ d ∷ more) long = absurd (omega (arith, long))
three_bytes (a ∷ b ∷ []) long = absurd (omega (arith, long))
three_bytes (a ∷ []) long = absurd (omega (arith, long))
three_bytes [] long = absurd (omega (arith, long))

pub field_more : (fields after : List FieldDef) (bytes rest entry left : List ℕ) (f : FieldDef)
    → f ≡ (record { number = get_or entry 0 0; size = get_or entry 1 0; code = get_or entry 2 0 }) → after ≡ fields ++ f ∷ []
    → rest ≡ entry ++ left → length entry ≡ 3 → flat_map field_bytes fields ++ rest ≡ bytes → flat_map field_bytes after ++ left ≡ bytes
field_more fields after bytes rest entry left f is more parts long told =
    ap (λ l. flat_map field_bytes l ++ left) more ∙ ap (λ l. l ++ left) (sym (flat_map_more field_bytes [] fields f))
    ∙ append_assoc (flat_map field_bytes fields) (field_bytes f) left
    ∙ ap (λ l. flat_map field_bytes fields ++ l) (ap (λ g. field_bytes g ++ left) is ∙ ap (λ l. l ++ left) (three_bytes entry long) ∙ sym parts) ∙ told

-- only these are its fields
pub fields_are : (f : Front) (entries : List ℕ) (fs gs : List FieldDef) → AreFields f entries fs → AreFields f entries gs → fs ≡ gs
fields_are f entries fs gs some others =
    (same_fields fs gs [] [] (some.0 ∙ sym others.0) (ap (λ l. l ++ []) (some.1 ∙ sym others.1))).0

-- ---- its bytes

-- one of the five bytes after the first
pub byte_at : (f : Front) (entries bytes rest five : List ℕ) (b k : ℕ) (developer : Bool) → BeginsWith developer f entries bytes
    → bytes ≡ b ∷ rest → five ≡ take 5 rest → k < 5
    → get_or five k 0 ≡ get_or (front_spelled developer f entries) (suc k) 0
byte_at f entries bytes rest five b k developer h first front few =
    ap (λ l. get_or l k 0) front ∙ get_or-take 5 rest k 0 few ∙ ap (λ l. get_or l (suc k) 0) (sym first)
    ∙ sym (get_or-take (6 + length entries) bytes (suc k) 0 (omega arith)) ∙ ap (λ l. get_or l (suc k) 0) h.is

-- the last of them is the number of fields
after_global : (o : Order) (global count : ℕ) (entries : List ℕ) → get_or (number_bytes o 2 global ++ count ∷ entries) 2 0 ≡ count
after_global Little global count entries = refl
after_global Big global count entries = refl

pub count_at : (f : Front) (entries bytes rest five : List ℕ) (b : ℕ) (developer : Bool) → BeginsWith developer f entries bytes
    → bytes ≡ b ∷ rest → five ≡ take 5 rest
    → get_or five 4 0 ≡ f.count
count_at f entries bytes rest five b developer h first front =
    byte_at f entries bytes rest five b 4 developer h first front (lit< tt) ∙ after_global f.order f.global f.count entries

-- ---- its front, byte by byte

five_bytes : (l : List ℕ) → length l ≡ 5 → l ≡ get_or l 0 0 ∷ get_or l 1 0 ∷ get_or l 2 0 ∷ get_or l 3 0 ∷ get_or l 4 0 ∷ []
five_bytes (a ∷ b ∷ c ∷ d ∷ e ∷ []) long = refl
five_bytes [] long = absurd (omega (arith, long))
five_bytes (a ∷ []) long = absurd (omega (arith, long))
five_bytes (a ∷ b ∷ []) long = absurd (omega (arith, long))
five_bytes (a ∷ b ∷ c ∷ []) long = absurd (omega (arith, long))
five_bytes (a ∷ b ∷ c ∷ d ∷ []) long = absurd (omega (arith, long))
five_bytes (a ∷ b ∷ c ∷ d ∷ e ∷ f ∷ more) long = absurd (omega (arith, long))

pub header_of : (developer : Bool) (b : ℕ) → b < 256 → has_reserved_bit b ≡ false → is_definition b ≡ true → has_developer_fields b ≡ developer
    → b ≡ (if developer then 0x60 else 0x40) + local_type b
header_of developer b low clean kind is = go developer (sym (ap with_bit is) ∙ (header_spelled b low clean kind).1)
  where
    with_bit : Bool → ℕ
    with_bit c = 0x40 + local_type b + unwrap_or (option_map (λ _. 0x20) (new_dev c)) 0

    go : (c : Bool) → with_bit c ≡ b → b ≡ (if c then 0x60 else 0x40) + local_type b
    go true h = omega (arith, h)
    go false h = omega (arith, h)

pub front_is : (developer : Bool) (f : Front) (b : ℕ) (piece rest five after entries : List ℕ) → piece ≡ b ∷ rest
    → b ≡ (if developer then 0x60 else 0x40) + f.local → five ≡ take 5 rest → after ≡ drop 5 rest → length five ≡ 5 → IsBytes rest
    → entries ≡ take (length entries) after → f.reserved ≡ get_or five 0 0 → architecture f.order ≡ get_or five 1 0
    → f.global ≡ number f.order (get_or five 2 0 ∷ get_or five 3 0 ∷ []) → f.count ≡ get_or five 4 0
    → take (6 + length entries) piece ≡ front_spelled developer f entries
front_is developer f b piece rest five after entries begins header front back long are split reserved order global count =
    let two : List ℕ = get_or five 2 0 ∷ get_or five 3 0 ∷ [] in
    let each : IsBytes five = subst IsBytes (sym front) (IsBytes-take 5 rest are) in
    let next : 6 + length entries ≡ suc (5 + length entries) = omega arith in
    let bytes : IsBytes two = IsBytes-cons (get_or five 2 0) (get_or five 3 0 ∷ []) (each 2) (IsBytes-cons (get_or five 3 0) [] (each 3) IsBytes-none) in
    let spelled : number_bytes f.order 2 f.global ≡ two = ap (number_bytes f.order 2) global ∙ number_bytes-number f.order two bytes in
    (λ i. take (next i) (begins i)) ∙ ap (λ l. b ∷ l) (take-add 5 (length entries) rest)
    ∙ (λ i. b ∷ sym front i ++ take (length entries) (sym back i)) ∙ (λ i. b ∷ five_bytes five long i ++ sym split i)
    ∙ (λ i. header i ∷ sym reserved i ∷ sym order i ∷ sym spelled i ++ sym count i ∷ entries)

-- ---- where a definition message stands

pub definition_stands : {A : Type 0} (e : Environment A) (bytes : List ℕ) (size : ℕ) → HasDefinition e bytes size
    → (f : Front) × (entries : List ℕ) × Begins f entries bytes × (6 + length entries ≡ size)
definition_stands e bytes size (d, within, (fits, is), no_dev) =
    let f : Front = record { local = d.local; reserved = d.reserved; order = d.order; global = d.global; count = length d.fields } in
    let entries : List ℕ = flat_map field_bytes d.fields in
    let long : length entries ≡ 3 * length d.fields = length-fields d.fields in
    let none : dev_length d.dev ≡ 0 = ap dev_length no_dev in
    let all : 6 + length entries ≡ size = omega (arith, long, none, length-definition d, ap length is, length-take-le size bytes within) in
    let header : definition_header d ≡ 0x40 + d.local =
    ap (λ o. 0x40 + d.local + unwrap_or (option_map (λ _. 0x20) o) 0) no_dev ∙ (let plain : 0x40 + d.local + 0 ≡ 0x40 + d.local = omega arith in plain) in
    let body : List ℕ = d.reserved ∷ architecture d.order ∷ number_bytes d.order 2 d.global ++ length d.fields ∷ entries in
    let says : definition_header d ∷ definition_bytes d ≡ definition_spelled f entries =
    ap (λ o. definition_header d ∷ (body ++ dev_part o)) no_dev ∙ ap (λ l. definition_header d ∷ l) (append-nil body) ∙ ap (λ h. h ∷ body) header in (
      f,
      entries,
      record {
        local = fits.local;
        global = fits.global;
        count = fits.fields;
        long = long;
        within = omega (arith, all, within);
        is = ap (λ n. take n bytes) all ∙ is ∙ says;
      },
      all,
    )

-- ---- with developer fields

pub dev_more : (fields after : List DevDef) (bytes rest entry left : List ℕ) (f : DevDef)
    → f ≡ (record { number = get_or entry 0 0; size = get_or entry 1 0; index = get_or entry 2 0 }) → after ≡ fields ++ f ∷ []
    → rest ≡ entry ++ left → length entry ≡ 3 → flat_map dev_field_bytes fields ++ rest ≡ bytes → flat_map dev_field_bytes after ++ left ≡ bytes
dev_more fields after bytes rest entry left f is more parts long told =
    ap (λ l. flat_map dev_field_bytes l ++ left) more ∙ ap (λ l. l ++ left) (sym (flat_map_more dev_field_bytes [] fields f))
    ∙ append_assoc (flat_map dev_field_bytes fields) (dev_field_bytes f) left
    ∙ ap (λ l. flat_map dev_field_bytes fields ++ l) (ap (λ g. dev_field_bytes g ++ left) is ∙ ap (λ l. l ++ left) (three_bytes entry long) ∙ sym parts)
    ∙ told

module _ {A : Type 0} (f : Front) (entries : List ℕ) (count : ℕ) (devs bytes : List ℕ) (wide : BeginsWide f entries count devs bytes)
    (fields : List FieldDef) (are : AreFields f entries fields) (dev : List DevDef) (many : length dev ≡ count) (said : flat_map dev_field_bytes dev ≡ devs)
  where
    abbrev pub wide_definition : MessageDef A
    wide_definition = record (definition_of {A = A} f fields) { dev = Some dev }

    pub wide_is_record : (e : Environment A) → IsRecord e (Define wide_definition) (take (7 + length entries + length devs) bytes)
    wide_is_record e =
        let begins = wide.begins in
        let fits : DefinitionFits wide_definition = record {
          local = begins.local;
          global = begins.global;
          fields = subst (λ n. n < 256) (sym are.0) begins.count;
          dev_fields = subst (λ n. n < 256) (sym many) wide.few;
        } in
        let header : 0x60 + f.local ≡ 0x40 + f.local + 0x20 = omega arith in
        let size : 7 + length entries + length devs ≡ 6 + length entries + (1 + length devs) = omega arith in
        let body : List ℕ = f.reserved ∷ architecture f.order ∷ number_bytes f.order 2 f.global ++ length fields ∷ flat_map field_bytes fields in
        let said_front : front_spelled true f entries ≡ (0x40 + f.local + 0x20) ∷ body =
        λ i. header i ∷ f.reserved ∷ architecture f.order ∷ number_bytes f.order 2 f.global ++ sym are.0 i ∷ sym are.1 i in
        let said_dev : count ∷ devs ≡ length dev ∷ flat_map dev_field_bytes dev = λ i. sym many i ∷ sym said i in (
          fits,
          ap (λ n. take n bytes) size ∙ take-add (6 + length entries) (1 + length devs) bytes
              ∙ (λ i. (begins.is ∙ said_front) i ++ (wide.is ∙ said_dev) i),
        )
