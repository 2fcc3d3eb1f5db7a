-- Worked records and the first reasons why they can't stand where they are.
use Rattle.fit_record.proofs.Common.{◌≡◌, ℕ, List, [], ◌∷◌, refl, None, Some, Items, FieldDef, DevDef, ShapeFault, BadLocal, BadOffset, UndefinedLocal}
use Rattle.fit_record.proofs.Common.{WrongShape, Environment, empty_environment, learn, first_fault, Option, map, replicate}
use Rattle.fit_record.proofs.KnownFiles.{field, dev_field, item, defines, message}

abbrev nothing : Environment (Unit {0})
nothing = empty_environment

-- ---- fields that are single bytes

-- a uint32 field of six bytes, a field of an unknown code, and a uint16 field of no bytes
abbrev odd_fields : Environment (Unit {0})
odd_fields = learn nothing (defines 0 20 (field 3 6 0x86 ∷ field 4 4 0x1F ∷ field 5 0 0x84 ∷ []) None)

abbrev odd_fault : Items (Unit {0}) → Items (Unit {0}) → Items (Unit {0}) → Option ShapeFault
odd_fault a b c = first_fault odd_fields (message 0 None (a ∷ b ∷ c ∷ []) [])

abbrev six : Items (Unit {0})
six = item 1 (1 ∷ 2 ∷ 3 ∷ 4 ∷ 5 ∷ 255 ∷ [])

abbrev four : Items (Unit {0})
four = item 1 (1 ∷ 2 ∷ 3 ∷ 4 ∷ [])

-- Where the width doesn't divide the size, and where the code is unknown, the items are bytes. No items have the width of the code.
odd_sizes_and_unknown_codes : odd_fault six four (item 2 []) ≡ None
odd_sizes_and_unknown_codes = refl

-- One number of four bytes is neither.
numbers_of_four_bytes : (odd_fault (item 4 (1 ∷ [])) four (item 2 []) ∷ odd_fault six (item 4 (1 ∷ [])) (item 2 []) ∷ [])
    ≡ (Some (WrongShape 0) ∷ Some (WrongShape 1) ∷ [])
numbers_of_four_bytes = refl

-- The field of no bytes has no number, and no bytes as items either.
no_bytes : map (odd_fault six four) (item 2 (1 ∷ []) ∷ item 1 [] ∷ []) ≡ (Some (WrongShape 2) ∷ Some (WrongShape 2) ∷ [])
no_bytes = refl

-- ---- the order of the reasons

-- Local type 0 has a uint32 field, a uint8 field, and a developer field of two bytes.
abbrev known : Environment (Unit {0})
known = learn nothing (defines 0 20 (field 253 4 0x86 ∷ field 3 1 2 ∷ []) (Some (dev_field 5 2 0 ∷ [])))

-- of a message without fields
abbrev header_fault_of : ℕ → Option ℕ → Option ShapeFault
header_fault_of local offset = first_fault known (message local offset [] [])

-- A local message type of 16, or of 4 with a time offset, comes before the offset. All fields are missing too.
bad_local : (header_fault_of 16 None ∷ header_fault_of 16 (Some 32) ∷ header_fault_of 4 (Some 0) ∷ header_fault_of 4 (Some 32) ∷ [])
    ≡ (Some BadLocal ∷ Some BadLocal ∷ Some BadLocal ∷ Some BadLocal ∷ [])
bad_local = refl

-- The offset comes before a local message type that isn't defined.
bad_offset : (header_fault_of 3 (Some 32) ∷ header_fault_of 0 (Some 32) ∷ []) ≡ (Some BadOffset ∷ Some BadOffset ∷ [])
bad_offset = refl

undefined_local : (header_fault_of 3 (Some 31) ∷ header_fault_of 15 None ∷ []) ≡ (Some UndefinedLocal ∷ Some UndefinedLocal ∷ [])
undefined_local = refl

-- The fields come last.
missing_fields : (header_fault_of 0 (Some 31) ∷ header_fault_of 0 None ∷ []) ≡ (Some (WrongShape 0) ∷ Some (WrongShape 0) ∷ [])
missing_fields = refl

-- ---- the first field that isn't as defined

abbrev fault_of : List (Items (Unit {0})) → List (Items (Unit {0})) → Option ShapeFault
fault_of fields dev = first_fault known (message 0 None fields dev)

abbrev time : Items (Unit {0})
time = item 4 (1000000031 ∷ [])

abbrev pulse : Items (Unit {0})
pulse = item 1 (120 ∷ [])

abbrev power : Items (Unit {0})
power = item 1 (0x34 ∷ 0x12 ∷ [])

-- a number that one byte can't hold
abbrev large : Items (Unit {0})
large = item 1 (256 ∷ [])

-- the developer field as one number
abbrev wide : Items (Unit {0})
wide = item 2 (4660 ∷ [])

-- as defined; with a number that is too large; one field missing; one too many
fields : map (λ fields. fault_of fields (power ∷ [])) ((time ∷ pulse ∷ []) ∷ (time ∷ large ∷ []) ∷ (time ∷ []) ∷ (time ∷ pulse ∷ pulse ∷ []) ∷ [])
    ≡ (None ∷ Some (WrongShape 1) ∷ Some (WrongShape 1) ∷ Some (WrongShape 2) ∷ [])
fields = refl

-- Of several the first counts.
all_wrong : fault_of (large ∷ large ∷ []) (wide ∷ []) ≡ Some (WrongShape 0)
all_wrong = refl

-- Developer fields are counted on from the two fields: one that is wrong, one missing, one too many.
developer_fields : map (fault_of (time ∷ pulse ∷ [])) ((wide ∷ []) ∷ [] ∷ (power ∷ power ∷ []) ∷ [])
    ≡ (Some (WrongShape 2) ∷ Some (WrongShape 2) ∷ Some (WrongShape 3) ∷ [])
developer_fields = refl

-- ---- definition messages

abbrev so_many : ℕ → List FieldDef
so_many count = replicate count (field 3 1 2)

abbrev so_many_dev : ℕ → Option (List DevDef)
so_many_dev count = Some (replicate count (dev_field 5 2 0))

-- The place of 256 of either list is too many. Developer fields are counted on from the definition's own fields.
fields_of_a_definition : map (λ count. first_fault nothing (defines 0 20 (so_many count) None)) (0 ∷ 255 ∷ 256 ∷ 300 ∷ [])
    ≡ (None ∷ None ∷ Some (WrongShape 255) ∷ Some (WrongShape 255) ∷ [])
fields_of_a_definition = refl

dev_fields_of_a_definition : map (λ count. first_fault nothing (defines 0 20 (so_many 2) (so_many_dev count))) (0 ∷ 255 ∷ 256 ∷ [])
    ≡ (None ∷ None ∷ Some (WrongShape 257) ∷ [])
dev_fields_of_a_definition = refl

-- The local message type comes first.
local_of_a_definition : map (λ local. first_fault nothing (defines local 20 (so_many 256) None)) (15 ∷ 16 ∷ [])
    ≡ (Some (WrongShape 255) ∷ Some BadLocal ∷ [])
local_of_a_definition = refl
