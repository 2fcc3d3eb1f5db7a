-- What is held, and what is missing, after the bytes of a known file, counted by hand.
use Rattle.fit_chain.proofs.Common.{◌≡◌, ℕ, List, [], ◌∷◌, take, refl, None, map, Record, Define, Values, counts_so_far, entries_so_far, items_so_far, bound}
use Rattle.fit_chain.proofs.Common.{held_after, missing, Progress, at_header, at_data, header_of, field, both_architectures}
use Rattle.fit_record.proofs.KnownFiles.{item}
use Rattle.fit_base.specs.declared.number.Order.TheVariants as orders
use Rattle.fit_frame.specs.declared.header.HeaderSum.TheVariants as sums

-- ---- two definitions, each with a message

-- after some of the file's four records
abbrev of_two : ℕ → Progress (Unit {0})
of_two n = at_data both_architectures.header 36 (take n both_architectures.records) []

held_between : (map (λ n. held_after (of_two n)) (0 ∷ 1 ∷ 2 ∷ 3 ∷ 4 ∷ [])) ≡ 0 ∷ 2 ∷ 2 ∷ 4 ∷ 4 ∷ []
held_between = refl

-- Of the file's 36 bytes of data the records have 12, 6, 12 and 6; two bytes of the closing checksum follow.
missing_between : (map (λ n. missing 0 (of_two n)) (0 ∷ 1 ∷ 2 ∷ 3 ∷ 4 ∷ [])) ≡ 38 ∷ 26 ∷ 20 ∷ 8 ∷ 2 ∷ []
missing_between = refl

-- ---- a header

-- Before the data size has come a header of 14 bytes and the closing checksum are missing; then its 36 bytes too.
missing_of_header : (map (λ n. missing {A = Unit {0}} 0 (at_header (take n (14 ∷ 32 ∷ 0 ∷ 0 ∷ 36 ∷ 0 ∷ 0 ∷ 0 ∷ 0x2E ∷ []))))
    (0 ∷ 1 ∷ 2 ∷ 7 ∷ 8 ∷ 9 ∷ [])) ≡ 14 ∷ 15 ∷ 14 ∷ 9 ∷ 44 ∷ 43 ∷ []
missing_of_header = refl

-- one byte, where no file may follow
missing_past_the_limit : missing {A = Unit {0}} 16777215 (at_header []) ≡ 1
missing_past_the_limit = refl

held_of_header : (held_after {A = Unit {0}} (at_header (14 ∷ 32 ∷ [])) ≡ 0) × (bound {A = Unit {0}} (at_header (14 ∷ 32 ∷ [])) ≡ 0)
held_of_header = (refl, refl)

-- ---- a definition with developer fields, byte by byte

-- the bytes after the record header 63: two fields, and one developer field
abbrev two_and_one : List ℕ
two_and_one = 0 ∷ 0 ∷ 0x14 ∷ 0 ∷ 2 ∷ 5 ∷ 1 ∷ 2 ∷ 6 ∷ 2 ∷ 0x84 ∷ 1 ∷ 0 ∷ 4 ∷ 0 ∷ []

abbrev lengths : List ℕ
lengths = 0 ∷ 1 ∷ 2 ∷ 3 ∷ 4 ∷ 5 ∷ 6 ∷ 7 ∷ 8 ∷ 9 ∷ 10 ∷ 11 ∷ 12 ∷ 13 ∷ 14 ∷ 15 ∷ []

entries : (map (λ n. entries_so_far (take n two_and_one)) lengths) ≡ 0 ∷ 0 ∷ 0 ∷ 0 ∷ 0 ∷ 0 ∷ 0 ∷ 0 ∷ 1 ∷ 1 ∷ 1 ∷ 2 ∷ 2 ∷ 2 ∷ 2 ∷ 3 ∷ []
entries = refl

counts : (map (λ n. counts_so_far 0x63 (take n two_and_one)) lengths) ≡ 0 ∷ 0 ∷ 0 ∷ 0 ∷ 0 ∷ 2 ∷ 2 ∷ 2 ∷ 2 ∷ 2 ∷ 2 ∷ 2 ∷ 3 ∷ 3 ∷ 3 ∷ 3 ∷ []
counts = refl

-- Without bit 5 of the record header no developer fields follow.
counts_without : counts_so_far 0x43 (take 12 two_and_one) ≡ 2
counts_without = refl

-- A file of 16 bytes of data that begins with this definition, after the record header and some bytes of the definition.
abbrev in_definition : ℕ → Progress (Unit {0})
in_definition k = at_data (header_of 14 sums.Zero) 16 [] (0x63 ∷ take k two_and_one)

-- after each byte but the last
abbrev cuts : List ℕ
cuts = 0 ∷ 1 ∷ 2 ∷ 3 ∷ 4 ∷ 5 ∷ 6 ∷ 7 ∷ 8 ∷ 9 ∷ 10 ∷ 11 ∷ 12 ∷ 13 ∷ 14 ∷ []

-- A field counts with its third byte.
held_in_definition : (map (λ k. held_after (in_definition k)) cuts) ≡ 0 ∷ 0 ∷ 0 ∷ 0 ∷ 0 ∷ 0 ∷ 0 ∷ 0 ∷ 1 ∷ 1 ∷ 1 ∷ 2 ∷ 2 ∷ 2 ∷ 2 ∷ []
held_in_definition = refl

-- The two fields are bounded from the byte on that counts them, and so is the developer field.
bound_in_definition : (map (λ k. bound (in_definition k)) cuts) ≡ 0 ∷ 0 ∷ 0 ∷ 0 ∷ 0 ∷ 2 ∷ 2 ∷ 2 ∷ 2 ∷ 2 ∷ 2 ∷ 2 ∷ 3 ∷ 3 ∷ 3 ∷ []
bound_in_definition = refl

-- Of the data 15 bytes are missing after the record header, and the two of the closing checksum.
missing_in_definition : (map (λ k. missing 0 (in_definition k)) cuts) ≡ 17 ∷ 16 ∷ 15 ∷ 14 ∷ 13 ∷ 12 ∷ 11 ∷ 10 ∷ 9 ∷ 8 ∷ 7 ∷ 6 ∷ 5 ∷ 4 ∷ 3 ∷ []
missing_in_definition = refl

-- ---- items

-- three single bytes, and two numbers of two bytes
items : (map (items_so_far ((2, 3) ∷ (0x84, 4) ∷ [])) (0 ∷ 1 ∷ 2 ∷ 3 ∷ 4 ∷ 5 ∷ 6 ∷ 7 ∷ [])) ≡ 0 ∷ 1 ∷ 2 ∷ 3 ∷ 3 ∷ 4 ∷ 4 ∷ 5 ∷ []
items = refl

-- ---- a file of one definition and one message, with 11 bytes of data

abbrev one_field : Record (Unit {0})
one_field = Define (record { local = 3; reserved = 0; order = orders.Little; global = 20; fields = field 5 1 2 ∷ []; dev = None })

abbrev one_byte : Record (Unit {0})
one_byte = Values (record { local = 3; offset = None; fields = item 1 (3 ∷ []) ∷ []; dev = [] })

abbrev of_one : List (Record (Unit {0})) → List ℕ → Progress (Unit {0})
of_one records part = at_data (header_of 14 sums.Zero) 11 records part

-- after the definition; after the message's record header; after the message; and after one byte of the closing checksum, which looks like
-- a record header of the same local message type and is none
abbrev known_file : List (Progress (Unit {0}))
known_file = of_one (one_field ∷ []) [] ∷ of_one (one_field ∷ []) (3 ∷ []) ∷ of_one (one_field ∷ one_byte ∷ []) []
    ∷ of_one (one_field ∷ one_byte ∷ []) (0x13 ∷ []) ∷ []

held : (map held_after known_file) ≡ 1 ∷ 2 ∷ 1 ∷ 1 ∷ []
held = refl

bounds : (map bound known_file) ≡ 1 ∷ 3 ∷ 1 ∷ 1 ∷ []
bounds = refl

needed : (map (missing 0) known_file) ≡ 4 ∷ 3 ∷ 2 ∷ 1 ∷ []
needed = refl
