-- How much is kept of a record in progress, and at most, by the bytes that have come of it.
use Rattle.std.specs.Prelude.{ℕ, ◌+◌, ◌-◌, ◌*◌, ◌/◌, min, nat_le, if◌then◌else◌, List, [], ◌∷◌, ◌++◌, length, sum_by, slice_index}
use Rattle.std.specs.Option.{option_map_or}
use Rattle.fit_base.specs.BaseTypes.{item_width}
use Rattle.fit_record.specs.declared.environment.Defined.{Defined}
use Rattle.fit_record.specs.Environment.{Environment, defined_at}
use Rattle.fit_record.specs.HeaderByte.{is_definition, has_developer_fields, local_type}
use Rattle.fit_record.specs.Records.{layout, dev_layout}
use Rattle.fit_record.specs.Sizes.{entry_count}

-- the items of a message under this definition
abbrev pub item_count : {A : Type 0} → Defined A → ℕ
item_count p = sum_by (λ f. f.1 / item_width f.0 f.1) (layout p ++ dev_layout p)

-- the two counts of entries in what there is of a definition after its record header
abbrev pub counts_so_far : ℕ → List ℕ → ℕ
counts_so_far header_byte bytes =
    slice_index bytes 4 + (if has_developer_fields header_byte then slice_index bytes (5 + 3 * slice_index bytes 4) else 0)

-- the most that is kept of a record that begins with some bytes
abbrev pub part_size : {A : Type 0} → Environment A → List ℕ → ℕ
part_size e [] = 0
part_size e (b ∷ bytes) =
    if is_definition b then counts_so_far b bytes
    else option_map_or (λ p. entry_count p.definition + item_count p) (defined_at e (local_type b)) 0

-- The entries that are whole in some bytes of a definition message after its record header: the fields begin after five bytes, an
-- entry has three, and one byte stands between the fields and the developer fields. `proofs/HeldRows` of `fit_chain` computes it after each byte of
-- a definition message.
abbrev pub entries_so_far : List ℕ → ℕ
entries_so_far bytes =
    let fields_end = 5 + 3 * slice_index bytes 4 in
    if nat_le (length bytes) fields_end then (length bytes - 5) / 3
    else slice_index bytes 4 + (length bytes - 1 - fields_end) / 3

-- The items that are whole in that many bytes of fields, by code and size of each field. `proofs/HeldRows` of `fit_chain` computes it after each
-- byte of a message.
abbrev pub items_so_far : List (ℕ × ℕ) → ℕ → ℕ
items_so_far [] count = 0
items_so_far (f ∷ fields) count = min count f.1 / item_width f.0 f.1 + items_so_far fields (count - f.1)

-- Of some bytes of a record: of a definition message the entries that are whole, of a data message all fields and developer
-- fields, and the items that are whole.
abbrev pub held_of_record : {A : Type 0} → Environment A → List ℕ → ℕ
held_of_record e [] = 0
held_of_record e (b ∷ bytes) =
    if is_definition b then entries_so_far bytes
    else option_map_or (λ p. entry_count p.definition + items_so_far (layout p ++ dev_layout p) (length bytes)) (defined_at e (local_type b)) 0
