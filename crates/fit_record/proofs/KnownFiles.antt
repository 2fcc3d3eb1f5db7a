-- Whole files whose bytes are known from elsewhere: each value below is proved to be the file of its bytes.
use Rattle.fit_record.proofs.Common.{◌≡◌, ℕ, ◌<◌, ◌^◌, Bool, true, false, ◌&&◌, List, [], ◌∷◌, length, refl, None, Some, arith, lit<, ltb-true}
use Rattle.fit_record.proofs.Common.{and_parts, eqb-false}
use Rattle.fit_record.proofs.Common.{Items, checksum, FieldDef, DevDef, FitFile, Record, Define, Environment, empty_environment, learn, AllFit, first_fault}
use Rattle.fit_record.proofs.Common.{body, IsWellFormed, IsFile}
use Rattle.std.specs.Prelude.{Option, nat_lt}
use Rattle.fit_frame.specs.Header.{SizeFits, ZeroIsSum, fixed_part}
use Rattle.fit_record.specs.Faults.{HasRange}
use Rattle.fit_record.proofs.NoFaultWhereFits.{faults_are_exact}
use Rattle.fit_frame.specs.declared.header.Header.{Header}
use Rattle.fit_frame.specs.declared.header.HeaderSum.{HeaderSum}
use Rattle.fit_record.specs.declared.message.Record.TheVariants.{Values}
use Rattle.fit_base.specs.declared.number.Order.TheVariants as orders
use Rattle.fit_frame.specs.declared.header.HeaderSum.TheVariants as sums

-- protocol version 2.0
abbrev pub header_of : ℕ → HeaderSum → Header
header_of size sum = record { size = size; protocol = 32; profile = 0; sum = sum; rest = record { items = [] } }

abbrev pub file_of : Header → List (Record (Unit {0})) → FitFile (Unit {0})
file_of h rs = record { header = h; records = rs }

abbrev pub field : ℕ → ℕ → ℕ → FieldDef
field number size code = record { number = number; size = size; code = code }

abbrev pub dev_field : ℕ → ℕ → ℕ → DevDef
dev_field number size index = record { number = number; size = size; index = index }

abbrev pub item : ℕ → List ℕ → Items (Unit {0})
item width bits = record { width = width; bits = bits }

abbrev pub defines : ℕ → ℕ → List FieldDef → Option (List DevDef) → Record (Unit {0})
defines local global fields dev = Define (record { local = local; reserved = 0; order = orders.Little; global = global; fields = fields; dev = dev })

abbrev pub message : ℕ → Option ℕ → List (Items (Unit {0})) → List (Items (Unit {0})) → Record (Unit {0})
message local offset fields dev = Values (record { local = local; offset = offset; fields = fields; dev = dev })

-- Records fit where a test finds no fault in them.
abbrev none : {X : Type 0} → Option X → Bool
none None = true
none (Some x) = false

abbrev in_range : Record (Unit {0}) → Bool
in_range (Define d) = nat_lt d.global (2 ^ 16)
in_range (Values v) = true

abbrev have_no_fault : Environment (Unit {0}) → List (Record (Unit {0})) → Bool
have_no_fault e [] = true
have_no_fault e (r ∷ rs) = (none (first_fault e r) && in_range r) && have_no_fault (learn e r) rs

is_none : {X : Type 0} (o : Option X) → none o ≡ true → o ≡ None
is_none None h = refl
is_none (Some x) h = cc

has_range : (r : Record (Unit {0})) → in_range r ≡ true → HasRange r
has_range (Define d) h = ltb-true d.global (2 ^ 16) h
has_range (Values v) h = tt

all_fit : (e : Environment (Unit {0})) (rs : List (Record (Unit {0}))) → have_no_fault e rs ≡ true → AllFit e rs
all_fit e [] h = tt
all_fit e (r ∷ rs) h =
    let parts = and_parts (none (first_fault e r) && in_range r) (have_no_fault (learn e r) rs) h in
    let first = and_parts (none (first_fault e r)) (in_range r) parts.0 in
    ((faults_are_exact e r).1 (is_none (first_fault e r) first.0, has_range r first.1), all_fit (learn e r) rs parts.1)

-- A header has a form of its own where its size and its sum go together.
fits : (f : FitFile (Unit {0})) → SizeFits f.header.sum f.header.size f.header.rest.items → f.header.protocol ≡ 32 → f.header.size < 2 ^ 8
    → f.header.profile < 2 ^ 16 → length (body f) < 2 ^ 32 → (ZeroIsSum f.header (length (body f)) → ⊥)
    → have_no_fault empty_environment f.records ≡ true → IsWellFormed f
fits f size protocol one two four sum records = record {
  header = record {
    form = record { size = size; version = omega (arith, protocol) };
    size_fits = one;
    profile_fits = two;
    data_fits = four;
    sum = sum;
  };
  records = all_fit empty_environment f.records records;
}

true_is_not_zero : sums.True ≡ sums.Zero → ⊥
true_is_not_zero same = cc

absent_is_not_zero : sums.Absent ≡ sums.Zero → ⊥
absent_is_not_zero same = cc

-- an empty file
abbrev pub empty_file : FitFile (Unit {0})
empty_file = file_of (header_of 14 sums.True) []

pub empty_file_bytes : IsFile empty_file (0x0E ∷ 0x20 ∷ 0 ∷ 0 ∷ 0 ∷ 0 ∷ 0 ∷ 0 ∷ 0x2E ∷ 0x46 ∷ 0x49 ∷ 0x54 ∷ 0x9C ∷ 0x85 ∷ 0 ∷ 0 ∷ [])
unfolding checksum
empty_file_bytes = (fits empty_file refl refl (lit< tt) (lit< tt) (lit< tt) (λ z. true_is_not_zero z.0) refl, refl)

-- zeros in place of the header's sum
abbrev pub zeros_for_a_sum : FitFile (Unit {0})
zeros_for_a_sum = file_of (header_of 14 sums.Zero) []

pub zeros_for_a_sum_bytes : IsFile zeros_for_a_sum (0x0E ∷ 0x20 ∷ 0 ∷ 0 ∷ 0 ∷ 0 ∷ 0 ∷ 0 ∷ 0x2E ∷ 0x46 ∷ 0x49 ∷ 0x54 ∷ 0 ∷ 0 ∷ 0xA8 ∷ 0xA3 ∷ [])
unfolding checksum
zeros_for_a_sum_bytes =
    let sum : ℕ = checksum (fixed_part zeros_for_a_sum.header 0) in
    (fits zeros_for_a_sum refl refl (lit< tt) (lit< tt) (lit< tt) (λ z. eqb-false sum 0 refl z.1) refl, refl)

-- a header of twelve bytes
abbrev pub short_header : FitFile (Unit {0})
short_header = file_of (header_of 12 sums.Absent) []

pub short_header_bytes : IsFile short_header (0x0C ∷ 0x20 ∷ 0 ∷ 0 ∷ 0 ∷ 0 ∷ 0 ∷ 0 ∷ 0x2E ∷ 0x46 ∷ 0x49 ∷ 0x54 ∷ 0x65 ∷ 0x42 ∷ [])
unfolding checksum
short_header_bytes = (fits short_header (refl, refl) refl (lit< tt) (lit< tt) (lit< tt) (λ z. absent_is_not_zero z.0) refl, refl)

-- a definition without fields, and a message of one byte
abbrev pub one_byte_message : FitFile (Unit {0})
one_byte_message = file_of (header_of 14 sums.True) (defines 0 20 [] None ∷ message 0 None [] [] ∷ [])

pub one_byte_message_bytes : IsFile one_byte_message
    (0x0E ∷ 0x20 ∷ 0 ∷ 0 ∷ 7 ∷ 0 ∷ 0 ∷ 0 ∷ 0x2E ∷ 0x46 ∷ 0x49 ∷ 0x54 ∷ 0xDD ∷ 0x63 ∷ 0x40 ∷ 0 ∷ 0 ∷ 0x14 ∷ 0 ∷ 0 ∷ 0 ∷ 0x44 ∷ 0x34 ∷ [])
unfolding checksum
one_byte_message_bytes = (fits one_byte_message refl refl (lit< tt) (lit< tt) (lit< tt) (λ z. true_is_not_zero z.0) refl, refl)

-- both architectures, and a compressed header
abbrev pub both_architectures : FitFile (Unit {0})
both_architectures = file_of (header_of 14 sums.True)
    (defines 0 20 (field 253 4 0x86 ∷ field 3 1 2 ∷ []) None
    ∷ message 0 None (item 4 (1000000031 ∷ []) ∷ item 1 (120 ∷ []) ∷ []) []
    ∷ Define (record { local = 1; reserved = 0; order = orders.Big; global = 20; fields = field 2 2 0x84 ∷ field 8 3 0x0D ∷ []; dev = None })
    ∷ message 1 (Some 2) (item 2 (2500 ∷ []) ∷ item 1 (0x64 ∷ 0 ∷ 0x10 ∷ []) ∷ []) []
    ∷ [])

pub both_architectures_bytes : IsFile both_architectures
    (0x0E ∷ 0x20 ∷ 0 ∷ 0 ∷ 0x24 ∷ 0 ∷ 0 ∷ 0 ∷ 0x2E ∷ 0x46 ∷ 0x49 ∷ 0x54 ∷ 0x9F ∷ 0x6E
    ∷ 0x40 ∷ 0 ∷ 0 ∷ 0x14 ∷ 0 ∷ 2 ∷ 0xFD ∷ 4 ∷ 0x86 ∷ 3 ∷ 1 ∷ 2
    ∷ 0 ∷ 0x1F ∷ 0xCA ∷ 0x9A ∷ 0x3B ∷ 0x78
    ∷ 0x41 ∷ 0 ∷ 1 ∷ 0 ∷ 0x14 ∷ 2 ∷ 2 ∷ 2 ∷ 0x84 ∷ 8 ∷ 3 ∷ 0x0D
    ∷ 0xA2 ∷ 9 ∷ 0xC4 ∷ 0x64 ∷ 0 ∷ 0x10
    ∷ 0xF0 ∷ 0x3B ∷ [])
unfolding checksum
both_architectures_bytes = (fits both_architectures refl refl (lit< tt) (lit< tt) (lit< tt) (λ z. true_is_not_zero z.0) refl, refl)

-- messages of local type 1 with developer field 5 of index 0, of two bytes
abbrev pub power : Record (Unit {0})
power = defines 1 20 [] (Some (dev_field 5 2 0 ∷ []))

-- the developer field as two bytes, and as one number
abbrev pub two_bytes : Record (Unit {0})
two_bytes = message 1 None [] (item 1 (0x34 ∷ 0x12 ∷ []) ∷ [])

abbrev pub one_number : Record (Unit {0})
one_number = message 1 None [] (item 2 (4660 ∷ []) ∷ [])

-- field descriptions with a name of three bytes
abbrev pub descriptions : Record (Unit {0})
descriptions = defines 0 206 (field 0 1 2 ∷ field 1 1 2 ∷ field 2 1 2 ∷ field 3 3 7 ∷ []) None

-- Developer field 5 of index 0 is a uint16 with the name `mo`.
abbrev pub description : Record (Unit {0})
description = message 0 None (item 1 (0 ∷ []) ∷ item 1 (5 ∷ []) ∷ item 1 (0x84 ∷ []) ∷ item 1 (0x6D ∷ 0x6F ∷ 0 ∷ []) ∷ []) []

-- a developer field before and after its description
abbrev pub described_field : FitFile (Unit {0})
described_field = file_of (header_of 14 sums.True)
    (descriptions ∷ power ∷ two_bytes ∷ description ∷ two_bytes ∷ power ∷ one_number ∷ [])

pub described_field_bytes : IsFile described_field
    (0x0E ∷ 0x20 ∷ 0 ∷ 0 ∷ 0x36 ∷ 0 ∷ 0 ∷ 0 ∷ 0x2E ∷ 0x46 ∷ 0x49 ∷ 0x54 ∷ 0x1F ∷ 0xBB
    ∷ 0x40 ∷ 0 ∷ 0 ∷ 0xCE ∷ 0 ∷ 4 ∷ 0 ∷ 1 ∷ 2 ∷ 1 ∷ 1 ∷ 2 ∷ 2 ∷ 1 ∷ 2 ∷ 3 ∷ 3 ∷ 7
    ∷ 0x61 ∷ 0 ∷ 0 ∷ 0x14 ∷ 0 ∷ 0 ∷ 1 ∷ 5 ∷ 2 ∷ 0
    ∷ 1 ∷ 0x34 ∷ 0x12
    ∷ 0 ∷ 0 ∷ 5 ∷ 0x84 ∷ 0x6D ∷ 0x6F ∷ 0
    ∷ 1 ∷ 0x34 ∷ 0x12
    ∷ 0x61 ∷ 0 ∷ 0 ∷ 0x14 ∷ 0 ∷ 0 ∷ 1 ∷ 5 ∷ 2 ∷ 0
    ∷ 1 ∷ 0x34 ∷ 0x12
    ∷ 0x4A ∷ 0x8B ∷ [])
unfolding checksum
described_field_bytes = (fits described_field refl refl (lit< tt) (lit< tt) (lit< tt) (λ z. true_is_not_zero z.0) refl, refl)

-- a header of sixteen bytes, with two after its sum
abbrev pub long_header : FitFile (Unit {0})
long_header = file_of (record { size = 16; protocol = 32; profile = 0; sum = sums.True; rest = record { items = 0x41 ∷ 0x42 ∷ [] } }) []

pub long_header_bytes : IsFile long_header (0x10 ∷ 0x20 ∷ 0 ∷ 0 ∷ 0 ∷ 0 ∷ 0 ∷ 0 ∷ 0x2E ∷ 0x46 ∷ 0x49 ∷ 0x54 ∷ 0xB4 ∷ 0xAD ∷ 0x41 ∷ 0x42 ∷ 0xB0 ∷ 0x61 ∷ [])
unfolding checksum
long_header_bytes = (fits long_header refl refl (lit< tt) (lit< tt) (lit< tt) (λ z. true_is_not_zero z.0) refl, refl)

-- a true sum of 0
abbrev pub sum_of_zero : FitFile (Unit {0})
sum_of_zero = file_of (record { size = 14; protocol = 32; profile = 46477; sum = sums.True; rest = record { items = [] } }) []

pub sum_of_zero_bytes : IsFile sum_of_zero (0x0E ∷ 0x20 ∷ 0x8D ∷ 0xB5 ∷ 0 ∷ 0 ∷ 0 ∷ 0 ∷ 0x2E ∷ 0x46 ∷ 0x49 ∷ 0x54 ∷ 0 ∷ 0 ∷ 0 ∷ 0 ∷ [])
unfolding checksum
sum_of_zero_bytes = (fits sum_of_zero refl refl (lit< tt) (lit< tt) (lit< tt) (λ z. true_is_not_zero z.0) refl, refl)
