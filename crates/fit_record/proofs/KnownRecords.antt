-- Worked environments: what a reader knows of developer fields after some records, and the lengths of definition messages.
use Rattle.fit_record.proofs.Common.{◌≡◌, ℕ, List, [], ◌∷◌, refl, None, Some, option_and_then, slice_get, Items, FieldDef, WrongShape, Record, Environment}
use Rattle.fit_record.proofs.Common.{empty_environment, defined_at, learn_all, first_fault, record_bytes, Option, map}
use Rattle.fit_record.proofs.KnownFiles.{field, item, defines, message, power, two_bytes, one_number, descriptions, description}

abbrev nothing : Environment (Unit {0})
nothing = empty_environment

-- an item of one byte
abbrev byte : ℕ → Items (Unit {0})
byte n = item 1 (n ∷ [])

-- the code of a developer field, as `Env::dev_code` answers it
abbrev code_at : Environment (Unit {0}) → ℕ → ℕ → Option ℕ
code_at e local place = option_and_then (λ p. slice_get p.dev_codes place) (defined_at e local)

-- ---- before and after the description

abbrev before : Environment (Unit {0})
before = learn_all nothing (descriptions ∷ power ∷ [])

abbrev described : Environment (Unit {0})
described = learn_all before (description ∷ [])

abbrev defined_again : Environment (Unit {0})
defined_again = learn_all described (power ∷ [])

abbrev both_forms : List (Record (Unit {0}))
both_forms = two_bytes ∷ one_number ∷ []

-- A developer field without a description has code 0x0D, byte. There is no second one, and no local message type 16.
undescribed : (code_at before 1 0 ∷ code_at before 1 1 ∷ code_at before 16 0 ∷ []) ≡ (Some 0x0D ∷ None ∷ None ∷ [])
undescribed = refl

-- So its items are bytes.
undescribed_items : map (first_fault before) both_forms ≡ (None ∷ Some (WrongShape 0) ∷ [])
undescribed_items = refl

-- The description alone changes nothing for the definition before it, and the definition after it has the described code.
just_described : (code_at described 1 0 ∷ code_at defined_again 1 0 ∷ []) ≡ (Some 0x0D ∷ Some 0x84 ∷ [])
just_described = refl

just_described_items : map (first_fault described) both_forms ≡ (None ∷ Some (WrongShape 0) ∷ [])
just_described_items = refl

items_of_the_code : map (first_fault defined_again) both_forms ≡ (Some (WrongShape 0) ∷ None ∷ [])
items_of_the_code = refl

-- ---- which messages describe

-- the developer field's code after one message of local type 0, and a definition
abbrev code_after : ℕ → List FieldDef → List (Items (Unit {0})) → Option ℕ
code_after global fields items = code_at (learn_all nothing (defines 0 global fields None ∷ message 0 None items [] ∷ power ∷ [])) 1 0

abbrev three_fields : List FieldDef
three_fields = field 0 1 2 ∷ field 1 1 2 ∷ field 2 1 2 ∷ []

-- Only messages of number 206 do.
three_fields_describe : map (λ global. code_after global three_fields (byte 0 ∷ byte 5 ∷ byte 0x84 ∷ [])) (206 ∷ 207 ∷ []) ≡ (Some 0x84 ∷ Some 0x0D ∷ [])
three_fields_describe = refl

-- another number, and another index
another_field : map (code_after 206 three_fields) ((byte 0 ∷ byte 6 ∷ byte 0x84 ∷ []) ∷ (byte 1 ∷ byte 5 ∷ byte 0x84 ∷ []) ∷ [])
    ≡ (Some 0x0D ∷ Some 0x0D ∷ [])
another_field = refl

-- The first field 1 has two items, and the second would do.
first_of_two_items :
    code_after 206 (field 0 1 2 ∷ field 1 2 2 ∷ field 2 1 2 ∷ field 1 1 2 ∷ []) (byte 0 ∷ item 1 (5 ∷ 5 ∷ []) ∷ byte 0x84 ∷ byte 5 ∷ [])
    ≡ Some 0x0D
first_of_two_items = refl

-- Its only item has two bytes.
wide_item : code_after 206 (field 0 1 2 ∷ field 1 2 0x84 ∷ field 2 1 2 ∷ []) (byte 0 ∷ item 2 (5 ∷ []) ∷ byte 0x84 ∷ []) ≡ Some 0x0D
wide_item = refl

-- Field 0 stands twice: the first counts.
abbrev twice : List FieldDef
twice = field 0 1 2 ∷ field 0 1 2 ∷ field 1 1 2 ∷ field 2 1 2 ∷ []

first_of_two_fields : map (code_after 206 twice) ((byte 0 ∷ byte 7 ∷ byte 5 ∷ byte 0x84 ∷ []) ∷ (byte 7 ∷ byte 0 ∷ byte 5 ∷ byte 0x84 ∷ []) ∷ [])
    ≡ (Some 0x84 ∷ Some 0x0D ∷ [])
first_of_two_fields = refl

-- The last description before the definition counts.
last_description :
    code_at (learn_all nothing (defines 0 206 three_fields None
    ∷ message 0 None (byte 0 ∷ byte 5 ∷ byte 0x84 ∷ []) [] ∷ message 0 None (byte 0 ∷ byte 5 ∷ byte 0x83 ∷ []) [] ∷ power ∷ [])) 1 0
    ≡ Some 0x83
last_description = refl

-- ---- no developer fields

abbrev two_fields : List FieldDef
two_fields = field 2 2 0x84 ∷ field 3 1 2 ∷ []

-- A definition message that has no developer fields has another form than one that can't have any: bit 5 of the record
-- header, and a number of them, 0.
without_any : record_bytes nothing (defines 0 20 two_fields None) ≡ 0x40 ∷ 0 ∷ 0 ∷ 20 ∷ 0 ∷ 2 ∷ 2 ∷ 2 ∷ 0x84 ∷ 3 ∷ 1 ∷ 2 ∷ []
without_any = refl

none_of_them : record_bytes nothing (defines 0 20 two_fields (Some [])) ≡ 0x60 ∷ 0 ∷ 0 ∷ 20 ∷ 0 ∷ 2 ∷ 2 ∷ 2 ∷ 0x84 ∷ 3 ∷ 1 ∷ 2 ∷ 0 ∷ []
none_of_them = refl
