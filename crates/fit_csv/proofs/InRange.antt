-- The numbers of files are in their ranges just where their bytes are bytes.
use Rattle.fit_csv.proofs.Common.{◌+◌, ◌^◌, [], ◌∷◌, ◌++◌, length, arith, lit<, IsSomeAnd, flat_map, AllByRecursion, Global, Items, Order, Little, Big}
use Rattle.fit_csv.proofs.Common.{items_bytes, IsBytes, little_bytes, number_bytes, Header, HeaderSum, Zero, True, fixed_part, header_bytes, signature}
use Rattle.fit_csv.proofs.Common.{sum_part, DevDef, FieldDef, MessageDef, Defined, FitFile, Record, Define, Data, Values, Environment, defined_at, dev_defs}
use Rattle.fit_csv.proofs.Common.{empty_environment, learn, IsWellFormed, IsWellFormedChain, body, chain_bytes, chain_limit, file_bytes, AllFit, DataFits}
use Rattle.fit_csv.proofs.Common.{DataHeaderFits, DefinitionFits, Fits, architecture, data_bytes, data_header, definition_bytes, definition_header}
use Rattle.fit_csv.proofs.Common.{dev_field_bytes, dev_part, field_bytes, order_at, record_bytes, records_bytes, DefinitionInRange, DevDefInRange}
use Rattle.fit_csv.proofs.Common.{FieldDefInRange, HeaderInRange, IsChainOfRows, IsFileOfRows, RecordInRange}
use Rattle.std.proofs.Common.{ℕ, ◌<◌, List, Option, Some, None}
use Rattle.std.specs.Prelude.{option_map, unwrap_or}
use Rattle.std.proofs.lemmas.List.Elements.{All-from_recursion, recursion_from_All}
use Rattle.fit_base.proofs.ByteLists.{IsBytes-append, IsBytes-back, IsBytes-cons, IsBytes-front, IsBytes-none, IsBytes-tail}
use Rattle.fit_base.proofs.NumberLaws.{IsBytes-number_bytes}
use Rattle.fit_frame.specs.declared.header.HeaderSum.TheVariants.{Absent}

-- ---- from bytes to numbers

all-small : (bytes : List ℕ) → IsBytes bytes → AllByRecursion (λ b. b < 2 ^ 8) bytes
all-small [] are = tt
all-small (b ∷ bytes) are = (are 0, all-small bytes (IsBytes-tail b bytes are))

fields-small : (fields : List FieldDef) → IsBytes (flat_map field_bytes fields) → AllByRecursion FieldDefInRange fields
fields-small [] are = tt
fields-small (f ∷ fields) are = (
  record { number = are 0; size = are 1; code = are 2 },
  fields-small fields (IsBytes-back (field_bytes f) (flat_map field_bytes fields) are),
)

dev-fields-small : (fields : List DevDef) → IsBytes (flat_map dev_field_bytes fields) → AllByRecursion DevDefInRange fields
dev-fields-small [] are = tt
dev-fields-small (f ∷ fields) are = (
  record { number = are 0; size = are 1; index = are 2 },
  dev-fields-small fields (IsBytes-back (dev_field_bytes f) (flat_map dev_field_bytes fields) are),
)

dev-part-small : (dev : Option (List DevDef)) → IsBytes (dev_part dev) → AllByRecursion DevDefInRange (dev_defs dev)
dev-part-small None are = tt
dev-part-small (Some fields) are = dev-fields-small fields (IsBytes-tail (length fields) (flat_map dev_field_bytes fields) are)

record-small : {A : Type 0} (e : Environment A) (r : Record A) → IsBytes (record_bytes e r) → RecordInRange r
record-small e (Define d) are =
    let front : List ℕ = d.reserved ∷ architecture d.order ∷ number_bytes d.order 2 d.global in
    let fields : List ℕ = length d.fields ∷ flat_map field_bytes d.fields in
    let beyond : IsBytes ((front ++ fields) ++ dev_part d.dev) = IsBytes-tail (definition_header d) (definition_bytes d) are in
    record {
      reserved = are 1;
      fields = fields-small d.fields (IsBytes-tail (length d.fields) (flat_map field_bytes d.fields)
          (IsBytes-back front fields (IsBytes-front (front ++ fields) (dev_part d.dev) beyond)));
      dev_fields = dev-part-small d.dev (IsBytes-back (front ++ fields) (dev_part d.dev) beyond);
    }
record-small e (Data v) are = tt

records-small : {A : Type 0} (e : Environment A) (records : List (Record A)) → IsBytes (records_bytes e records) → AllByRecursion RecordInRange records
records-small e [] are = tt
records-small e (r ∷ records) are = (
  record-small e r (IsBytes-front (record_bytes e r) (records_bytes (learn e r) records) are),
  records-small (learn e r) records (IsBytes-back (record_bytes e r) (records_bytes (learn e r) records) are),
)

file-small : (f : FitFile Global) → IsWellFormed f → IsBytes (file_bytes f) → IsFileOfRows f
file-small f good are =
    let n = length (body f) in
    let head = header_bytes f.header n in
    let fixed = fixed_part f.header n in
    let sum = sum_part f.header.sum fixed in
    let summed : IsBytes (head ++ body f) = IsBytes-front (head ++ body f) _ are in
    let rest : IsBytes f.header.rest.items = IsBytes-back (fixed ++ sum) f.header.rest.items (IsBytes-front head (body f) summed) in
    record {
      header = record {
        form = good.header.form;
        size = good.header.size_fits;
        profile = good.header.profile_fits;
        rest =
            All-from_recursion (λ b. b < 2 ^ 8) f.header.rest.items (all-small f.header.rest.items rest);
      };
      records = good.records;
      numbers = records-small empty_environment f.records (IsBytes-back head (body f) summed);
    }

files-small : (files : List (FitFile Global)) → AllByRecursion IsWellFormed files → IsBytes (chain_bytes files) → AllByRecursion IsFileOfRows files
files-small [] good are = tt
files-small (f ∷ files) good are =
    (file-small f good.0 (IsBytes-front (file_bytes f) (chain_bytes files) are), files-small files good.1 (IsBytes-back (file_bytes f) (chain_bytes files) are))

pub chain-of-rows : (files : List (FitFile Global)) → IsWellFormedChain chain_limit files → IsBytes (chain_bytes files) → IsChainOfRows files
chain-of-rows files good are = (good.within, files-small files good.each are)

-- ---- from numbers to bytes

all-bytes : (bytes : List ℕ) → AllByRecursion (λ b. b < 2 ^ 8) bytes → IsBytes bytes
all-bytes [] small = IsBytes-none
all-bytes (b ∷ bytes) small = IsBytes-cons b bytes small.0 (all-bytes bytes small.1)

fields-bytes : (fields : List FieldDef) → AllByRecursion FieldDefInRange fields → IsBytes (flat_map field_bytes fields)
fields-bytes [] small = IsBytes-none
fields-bytes (f ∷ fields) small =
    let rest = flat_map field_bytes fields in
    IsBytes-cons f.number (f.size ∷ f.code ∷ rest) small.0.number
    (IsBytes-cons f.size (f.code ∷ rest) small.0.size (IsBytes-cons f.code rest small.0.code (fields-bytes fields small.1)))

dev-fields-bytes : (fields : List DevDef) → AllByRecursion DevDefInRange fields → IsBytes (flat_map dev_field_bytes fields)
dev-fields-bytes [] small = IsBytes-none
dev-fields-bytes (f ∷ fields) small =
    let rest = flat_map dev_field_bytes fields in
    IsBytes-cons f.number (f.size ∷ f.index ∷ rest) small.0.number
    (IsBytes-cons f.size (f.index ∷ rest) small.0.size (IsBytes-cons f.index rest small.0.index (dev-fields-bytes fields small.1)))

dev-part-bytes : (dev : Option (List DevDef)) → length (dev_defs dev) < 256 → AllByRecursion DevDefInRange (dev_defs dev) → IsBytes (dev_part dev)
dev-part-bytes None few small = IsBytes-none
dev-part-bytes (Some fields) few small = IsBytes-cons (length fields) (flat_map dev_field_bytes fields) few (dev-fields-bytes fields small)

definition-header : (local : ℕ) (dev : Option (List DevDef)) → local < 16 → 0x40 + local + unwrap_or (option_map (λ _. 0x20) dev) 0 < 256
definition-header local None small = omega arith
definition-header local (Some fields) small = omega arith

architecture-byte : (o : Order) → architecture o < 256
architecture-byte Little = lit< tt
architecture-byte Big = lit< tt

define-bytes : {A : Type 0} (d : MessageDef A) → DefinitionFits d → DefinitionInRange d → IsBytes (definition_header d ∷ definition_bytes d)
define-bytes d fits small =
    let number = number_bytes d.order 2 d.global in
    let front : List ℕ = d.reserved ∷ architecture d.order ∷ number in
    let fields : List ℕ = length d.fields ∷ flat_map field_bytes d.fields in
    let first : IsBytes front = IsBytes-cons d.reserved (architecture d.order ∷ number) small.reserved
    (IsBytes-cons (architecture d.order) number (architecture-byte d.order) (IsBytes-number_bytes d.order 2 d.global)) in
    let next : IsBytes fields = IsBytes-cons (length d.fields) (flat_map field_bytes d.fields) fits.fields (fields-bytes d.fields small.fields) in
    IsBytes-cons (definition_header d) (definition_bytes d) (definition-header d.local d.dev fits.local)
    (IsBytes-append (front ++ fields) (dev_part d.dev) (IsBytes-append front fields first next) (dev-part-bytes d.dev fits.dev_fields small.dev_fields))

numbers-bytes : (o : Order) (width : ℕ) (numbers : List ℕ) → IsBytes (flat_map (number_bytes o width) numbers)
numbers-bytes o width [] = IsBytes-none
numbers-bytes o width (n ∷ numbers) = IsBytes-append (number_bytes o width n) (flat_map (number_bytes o width) numbers) (IsBytes-number_bytes o width n)
    (numbers-bytes o width numbers)

items-bytes : {A : Type 0} (o : Order) (items : List (Items A)) → IsBytes (flat_map (items_bytes o) items)
items-bytes o [] = IsBytes-none
items-bytes o (i ∷ items) = IsBytes-append (items_bytes o i) (flat_map (items_bytes o) items) (numbers-bytes o i.width i.bits) (items-bytes o items)

data-header : (local : ℕ) (offset : Option ℕ) → DataHeaderFits local offset → data_header local offset < 256
data-header local None fits = omega (arith, fits)
data-header local (Some offset) fits = omega (arith, fits.0, fits.1)

message-bytes : {A : Type 0} (o : Order) (v : Values A) (p : Option (Defined A)) → IsSomeAnd p (DataFits v)
    → IsBytes (data_header v.local v.offset ∷ data_bytes o v)
message-bytes o v None fits = absurd fits
message-bytes o v (Some p) fits =
    IsBytes-cons (data_header v.local v.offset) (data_bytes o v) (data-header v.local v.offset fits.header)
    (IsBytes-append (flat_map (items_bytes o) v.fields) (flat_map (items_bytes o) v.dev) (items-bytes o v.fields) (items-bytes o v.dev))

record-bytes : {A : Type 0} (e : Environment A) (r : Record A) → Fits e r → RecordInRange r → IsBytes (record_bytes e r)
record-bytes e (Define d) fits small = define-bytes d fits small
record-bytes e (Data v) fits small = message-bytes (order_at e v.local) v (defined_at e v.local) fits

records-bytes : {A : Type 0} (e : Environment A) (records : List (Record A)) → AllFit e records → AllByRecursion RecordInRange records
    → IsBytes (records_bytes e records)
records-bytes e [] fit small = IsBytes-none
records-bytes e (r ∷ records) fit small =
    IsBytes-append (record_bytes e r) (records_bytes (learn e r) records) (record-bytes e r fit.0 small.0) (records-bytes (learn e r) records fit.1 small.1)

sum-bytes : (sum : HeaderSum) (fixed : List ℕ) → IsBytes (sum_part sum fixed)
sum-bytes Absent fixed = IsBytes-none
sum-bytes Zero fixed = IsBytes-cons 0 (0 ∷ []) (lit< tt) (IsBytes-cons 0 [] (lit< tt) IsBytes-none)
sum-bytes True fixed = IsBytes-number_bytes Little 2 _

signature-bytes : IsBytes signature
signature-bytes = all-bytes signature (lit< tt, (lit< tt, (lit< tt, (lit< tt, tt))))

head-bytes : (h : Header) (n : ℕ) → HeaderInRange h → IsBytes (header_bytes h n)
head-bytes h n small =
    let profile = little_bytes 2 h.profile in
    let count = little_bytes 4 n in
    let fixed = fixed_part h n in
    let protocol : h.protocol < 256 = let version = small.form.version in omega (arith, version) in
    let first : IsBytes (h.size ∷ h.protocol ∷ profile) =
    IsBytes-cons h.size (h.protocol ∷ profile) small.size (IsBytes-cons h.protocol profile protocol (IsBytes-number_bytes Little 2 h.profile)) in
    let twelve : IsBytes (((h.size ∷ h.protocol ∷ profile) ++ count) ++ signature) =
    IsBytes-append ((h.size ∷ h.protocol ∷ profile) ++ count) signature
    (IsBytes-append (h.size ∷ h.protocol ∷ profile) count first (IsBytes-number_bytes Little 4 n)) signature-bytes in
    IsBytes-append (fixed ++ sum_part h.sum fixed) h.rest.items (IsBytes-append fixed (sum_part h.sum fixed) twelve (sum-bytes h.sum fixed))
    (all-bytes h.rest.items (recursion_from_All (λ b. b < 2 ^ 8) h.rest.items small.rest))

file-bytes : (f : FitFile Global) → IsFileOfRows f → IsBytes (file_bytes f)
file-bytes f good =
    let head = header_bytes f.header (length (body f)) in
    IsBytes-append (head ++ body f) _
    (IsBytes-append head (body f) (head-bytes f.header (length (body f)) good.header) (records-bytes empty_environment f.records good.records good.numbers))
    (IsBytes-number_bytes Little 2 _)

files-bytes : (files : List (FitFile Global)) → AllByRecursion IsFileOfRows files → IsBytes (chain_bytes files)
files-bytes [] good = IsBytes-none
files-bytes (f ∷ files) good = IsBytes-append (file_bytes f) (chain_bytes files) (file-bytes f good.0) (files-bytes files good.1)

pub chain-bytes : (files : List (FitFile Global)) → IsChainOfRows files → IsBytes (chain_bytes files)
chain-bytes files good = files-bytes files good.1
