-- Fields of records whose bytes are bytes have at most 255 bytes each, and so have the names that descriptions give.
use Rattle.std.proofs.Common.{◌≡◌, ℕ, zero, suc, ◌*◌, ◌<◌, ◌≤◌, ◌==◌, List, [], ◌∷◌, ◌++◌, true, false, sym, subst, arith}
use Rattle.std.proofs.Common.{length, get_or, set, replicate}
use Rattle.std.proofs.lemmas.List.{length-map, length-reverse}
use Rattle.std.specs.List.{AllByRecursion, list_all}
use Rattle.std.specs.Prelude.{◌&&◌, Option, Some, None, IfSome, IsSomeAnd, flat_map, if◌then◌else◌, map, not, option_and_then, reverse, unwrap_or}
use Rattle.std.specs.Str.{is_utf8}
use Rattle.fit_base.proofs.ByteLists.{IsBytes-back, IsBytes-front, IsBytes-tail}
use Rattle.fit_base.proofs.SameItems.{item_width_positive}
use Rattle.fit_base.specs.Fields.{HasShape}
use Rattle.fit_base.specs.Numbers.{IsBytes, number_bytes}
use Rattle.fit_base.specs.declared.items.Items.{Items}
use Rattle.fit_record.proofs.FilledRooms.{same_places}
use Rattle.fit_record.specs.Environment.{Environment, defined_at, defined_by, dev_code, dev_defs, description, learn}
use Rattle.fit_record.specs.Records.{DataFits, DefinitionFits, Fits, HaveShape, architecture, definition_bytes, definition_header, dev_field_bytes, dev_part}
use Rattle.fit_record.specs.Records.{field_bytes, record_bytes, records_bytes}
use Rattle.fit_record.specs.Sound.{IsSound}
use Rattle.fit_record.specs.declared.definition.DevDef.{DevDef}
use Rattle.fit_record.specs.declared.definition.FieldDef.{FieldDef}
use Rattle.fit_record.specs.declared.definition.MessageDef.{MessageDef}
use Rattle.fit_record.specs.declared.environment.Defined.{Defined}
use Rattle.fit_record.specs.declared.learn.Description.{Description}
use Rattle.fit_record.specs.declared.message.Record.{Record}
use Rattle.fit_record.specs.declared.message.Record.TheVariants.{Define, Values as Data}
use Rattle.fit_record.specs.declared.message.Values.{Values}
use Rattle.fit_profile.specs.Described.{Naming, before_closing_zeros, is_printable, naming, naming_by, naming_of, printable_text}
use Rattle.fit_profile.specs.Described.{without_zeros}
use Rattle.fit_profile.specs.Looks.{first_field, known}

-- ---- sizes

pub record SizesAreSmall {A : Type 0} (d : MessageDef A) : Type 0 where
  pub fields : AllByRecursion (λ (f : FieldDef). f.size < 256) d.fields
  pub dev_fields : AllByRecursion (λ (f : DevDef). f.size < 256) (dev_defs d.dev)

abbrev pub IsSmall : {A : Type 0} → Record A → Type 0
IsSmall (Define d) = SizesAreSmall d
IsSmall (Data v) = Unit {0}

fields_small : (fields : List FieldDef) → IsBytes (flat_map field_bytes fields) → AllByRecursion (λ (f : FieldDef). f.size < 256) fields
fields_small [] are = tt
fields_small (f ∷ fields) are = (are 1, fields_small fields (IsBytes-back (field_bytes f) (flat_map field_bytes fields) are))

dev_fields_small : (fields : List DevDef) → IsBytes (flat_map dev_field_bytes fields) → AllByRecursion (λ (f : DevDef). f.size < 256) fields
dev_fields_small [] are = tt
dev_fields_small (f ∷ fields) are = (are 1, dev_fields_small fields (IsBytes-back (dev_field_bytes f) (flat_map dev_field_bytes fields) are))

dev_part_small : (dev : Option (List DevDef)) → IsBytes (dev_part dev) → AllByRecursion (λ (f : DevDef). f.size < 256) (dev_defs dev)
dev_part_small None are = tt
dev_part_small (Some fields) are = dev_fields_small fields (IsBytes-tail (length fields) (flat_map dev_field_bytes fields) are)

pub record_small : {A : Type 0} (e : Environment A) (r : Record A) → IsBytes (record_bytes e r) → IsSmall r
record_small e (Define d) are =
    let front : List ℕ = d.reserved ∷ architecture d.order ∷ number_bytes d.order 2 d.global in
    let fields : List ℕ = length d.fields ∷ flat_map field_bytes d.fields in
    let beyond : IsBytes ((front ++ fields) ++ dev_part d.dev) = IsBytes-tail (definition_header d) (definition_bytes d) are in
    record {
      fields = fields_small d.fields (IsBytes-tail (length d.fields) (flat_map field_bytes d.fields)
          (IsBytes-back front fields (IsBytes-front (front ++ fields) (dev_part d.dev) beyond)));
      dev_fields = dev_part_small d.dev (IsBytes-back (front ++ fields) (dev_part d.dev) beyond);
    }
record_small e (Data v) are = tt

pub records_small : {A : Type 0} (e : Environment A) (records : List (Record A)) → IsBytes (records_bytes e records) → AllByRecursion IsSmall records
records_small e [] are = tt
records_small e (r ∷ records) are = (
  record_small e r (IsBytes-front (record_bytes e r) (records_bytes (learn e r) records) are),
  records_small (learn e r) records (IsBytes-back (record_bytes e r) (records_bytes (learn e r) records) are),
)

-- ---- records before others, the latest first

-- each fits after those before it, and its sizes are small
abbrev pub AreSmall : {A : Type 0} → List (Record A) → Type 0
AreSmall [] = Unit {0}
AreSmall (r ∷ earlier) = Fits (known earlier) r × IsSmall r × AreSmall earlier

-- a definition in its place, with its codes
pub record IsSmallDefined {A : Type 0} (p : Defined A) : Type 0 where
  pub small : SizesAreSmall p.definition
  pub sound : IsSound p

abbrev DefinedSmall : {A : Type 0} → Option (Defined A) → Type 0
DefinedSmall o = IfSome o IsSmallDefined

small_set : {A : Type 0} (places : List (Option (Defined A))) (k : ℕ) (p : Defined A) → IsSmallDefined p
    → ((i : ℕ) → DefinedSmall (get_or places i None)) → (i : ℕ) → DefinedSmall (get_or (set places k (Some p)) i None)
small_set [] k p small all i = tt
small_set (o ∷ places) zero p small all zero = small
small_set (o ∷ places) zero p small all (suc i) = all (suc i)
small_set (o ∷ places) (suc k) p small all zero = all 0
small_set (o ∷ places) (suc k) p small all (suc i) = small_set places k p small (λ j. all (suc j)) i

none_small : (A : Type 0) (n i : ℕ) → DefinedSmall {A = A} (get_or (replicate n None) i None)
none_small A zero i = tt
none_small A (suc n) zero = tt
none_small A (suc n) (suc i) = none_small A n i

small_by : {A : Type 0} (e : Environment A) (d : MessageDef A) → DefinitionFits d → SizesAreSmall d → IsSmallDefined (defined_by e d)
small_by e d fits small =
    record { small = small; sound = record { fields = fits.fields; dev_fields = fits.dev_fields; codes = length-map (dev_defs d.dev) (dev_code e) } }

-- each definition that they leave in its place
pub defined_small : {A : Type 0} (before : List (Record A)) → AreSmall before → (local : ℕ) → IfSome (defined_at (known before) local) IsSmallDefined
defined_small {A} [] are local = none_small A 16 local
defined_small (Define d ∷ before) are local =
    small_set (known before).places d.local (defined_by (known before) d) (small_by (known before) d are.0 are.1) (λ i. defined_small before are.2 i) local
defined_small (Data v ∷ before) are local =
    subst (λ places. DefinedSmall (get_or places local None)) (sym (same_places (known before) v)) (defined_small before are.2 local)

-- ---- names

-- a naming of which the name and the unit have at most 255 bytes
abbrev pub IsShort : Naming → Type 0
IsShort n = (length (unwrap_or n.name []) < 256) × (length (unwrap_or n.unit []) < 256)

without_shorter : (bytes : List ℕ) → length (without_zeros bytes) ≤ length bytes
without_shorter [] = omega arith
without_shorter (b ∷ bytes) = elim (b == 0) as (λ t. length (if t then without_zeros bytes else b ∷ bytes) ≤ length (b ∷ bytes)) [
  | true ↦ omega (arith, without_shorter bytes)
  | false ↦ omega arith
]

closing_shorter : (bytes : List ℕ) → length (before_closing_zeros bytes) ≤ length bytes
closing_shorter bytes =
    omega (arith, length-reverse (without_zeros (reverse bytes)), without_shorter (reverse bytes), length-reverse bytes)

printable_shorter : (bytes : List ℕ) → length (unwrap_or (printable_text bytes) []) ≤ length bytes
printable_shorter bytes =
    elim ((not (length bytes == 0) && list_all is_printable bytes) && is_utf8 bytes)
    as (λ t. length (unwrap_or (if t then Some bytes else None) []) ≤ length bytes) [
      | true ↦ omega arith
      | false ↦ omega arith
    ]

-- there are no more items than bytes
few_items : {A : Type 0} (code size : ℕ) (items : Items A) → HasShape code size items → length items.bits ≤ size
few_items code size items shape =
    more (length items.bits) items.width (subst (λ w. 0 < w) (sym shape.width) (item_width_positive code size)) shape.whole
  where
    more : (n w : ℕ) → 0 < w → n * w ≡ size → n ≤ size
    more n zero some whole = absurd (omega (arith, some))
    more n (suc w) some whole = grind arith

abbrev FirstShort : {A : Type 0} → Option (FieldDef × Items A) → Type 0
FirstShort o = IfSome o (λ f. length f.1.bits < 256)

first_short : {A : Type 0} (fields : List FieldDef) (items : List (Items A)) (number : ℕ) → HaveShape (map (λ f. (f.code, f.size)) fields) items
    → AllByRecursion (λ (f : FieldDef). f.size < 256) fields → FirstShort (first_field fields items number)
first_short [] items number shape small = tt
first_short (f ∷ fields) [] number shape small = absurd shape
first_short (f ∷ fields) (i ∷ items) number shape small =
    elim (f.number == number) as (λ t. FirstShort (if t then Some (f, i) else first_field fields items number)) [
      | true ↦ let few = few_items f.code f.size i shape.0 in omega (arith, few, small.0)
      | false ↦ first_short fields items number shape.1 small.1
    ]

text_short : {A : Type 0} (o : Option (FieldDef × Items A)) → FirstShort o
    → length (unwrap_or (option_and_then (λ f. if f.0.code == 0x07 then printable_text (before_closing_zeros f.1.bits) else None) o) []) < 256
text_short None short = omega arith
text_short (Some (f, i)) short =
    elim (f.code == 0x07) as (λ t. length (unwrap_or (if t then printable_text (before_closing_zeros i.bits) else None) []) < 256) [
      | true ↦ omega (arith, short, printable_shorter (before_closing_zeros i.bits), closing_shorter i.bits)
      | false ↦ omega arith
    ]

naming_short : {A : Type 0} (p : Defined A) (v : Values A) → DataFits v p → SizesAreSmall p.definition → IsShort (naming p.definition v)
naming_short p v fits small =
    let d = p.definition in (
      text_short (first_field d.fields v.fields 3) (first_short d.fields v.fields 3 fits.fields small.fields),
      text_short (first_field d.fields v.fields 8) (first_short d.fields v.fields 8 fits.fields small.fields),
    )

-- the last naming is of a description or was there before
by_short : {A : Type 0} (p : Defined A) (v : Values A) (index number : ℕ) (before : Naming) (o : Option Description) → IsShort (naming p.definition v)
    → IsShort before
    → IsShort (unwrap_or (option_and_then (λ s. if s.key.index == index && s.key.number == number then Some (naming p.definition v) else None) o) before)
by_short p v index number before None own other = other
by_short p v index number before (Some s) own other =
    elim (s.key.index == index && s.key.number == number) as (λ t. IsShort (unwrap_or (if t then Some (naming p.definition v) else None) before)) [
      | true ↦ own
      | false ↦ other
    ]

after_short : {A : Type 0} (o : Option (Defined A)) (v : Values A) (index number : ℕ) (before : Naming) → IsSomeAnd o (DataFits v) → DefinedSmall o
    → IsShort before → IsShort (unwrap_or (option_and_then (λ p. naming_by p.definition v index number) o) before)
after_short None v index number before fits small other = absurd fits
after_short (Some p) v index number before fits small other =
    by_short p v index number before (description p.definition v) (naming_short p v fits small.small) other

pub naming_of_short : {A : Type 0} (before : List (Record A)) → AreSmall before → (index number : ℕ) → IsShort (naming_of before index number)
naming_of_short [] are index number = (omega arith, omega arith)
naming_of_short (Define d ∷ before) are index number = naming_of_short before are.2 index number
naming_of_short (Data v ∷ before) are index number =
    after_short (defined_at (known before) v.local) v index number (naming_of before index number) are.0 (defined_small before are.2 v.local)
    (naming_of_short before are.2 index number)
