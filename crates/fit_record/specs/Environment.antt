-- What a reader of records knows: the definition of each local message type, and the described developer fields
-- (sections "Definition Message" and "Developer Data").
use Rattle.std.specs.Prelude.{◌≡◌, ℕ, ◌==◌, if◌then◌else◌, List, [], ◌∷◌, map, replicate, slice_get, slice_index_or, slice_set, unwrap_or}
use Rattle.std.specs.Prelude.{Option, Some, None, option_and_then, option_map}
use Rattle.std.specs.Ordering.{nat_cmp, ordering_then}
use Rattle.std.specs.declared.cmp.Ordering.{Ordering}
use Rattle.std.specs.Map.{lookup}
use Rattle.std.specs.BTreeMap.{insert_entry, is_at}
use Rattle.fit_base.specs.declared.items.Items.{Items}
use Rattle.fit_record.specs.declared.definition.FieldDef.{FieldDef}
use Rattle.fit_record.specs.declared.definition.DevDef.{DevDef}
use Rattle.fit_record.specs.declared.learn.DevKey.{DevKey}
use Rattle.fit_record.specs.declared.environment.Defined.{Defined}
use Rattle.fit_record.specs.declared.learn.Description.{Description}
use Rattle.fit_record.specs.declared.definition.MessageDef.{MessageDef}
use Rattle.fit_record.specs.declared.message.Values.{Values}
use Rattle.fit_record.specs.declared.message.Record.{Record}
use Rattle.fit_record.specs.declared.message.Record.TheVariants.{Define, Values as Data}

-- by developer data index, and then by field number
abbrev pub dev_key_cmp : DevKey → DevKey → Ordering
dev_key_cmp a b = ordering_then (nat_cmp a.index b.index) (nat_cmp a.number b.number)

-- Sixteen places, one for each local message type, each empty or with a definition and the base type code of each of its
-- developer fields. A finite map from developer fields to their described codes, as its entries in the order of the keys.
pub record Environment (A : Type 0) : Type 0 where
  pub places : List (Option (Defined A))
  pub described : List (DevKey × ℕ)

-- what is known at the start of a file: nothing
abbrev pub empty_environment : {A : Type 0} → Environment A
empty_environment = record { places = replicate 16 None; described = [] }

-- what is defined for a local message type
abbrev pub defined_at : {A : Type 0} → Environment A → ℕ → Option (Defined A)
defined_at e local = slice_index_or e.places local None

-- the code of a developer field that is defined now: that of its description, or else byte
abbrev pub dev_code : {A : Type 0} → Environment A → DevDef → ℕ
dev_code e f = unwrap_or (lookup (is_at (dev_key_cmp (record { index = f.index; number = f.number }))) e.described) 0x0D

-- the definition of a local message type
abbrev pub definition_at : {A : Type 0} → Environment A → ℕ → Option (MessageDef A)
definition_at e local = option_map (λ p. p.definition) (defined_at e local)

-- the code that a developer field of a local message type had when it was defined
abbrev pub dev_code_at : {A : Type 0} → Environment A → ℕ → ℕ → Option ℕ
dev_code_at e local place = option_and_then (λ p. slice_get p.dev_codes place) (defined_at e local)

-- the items of the first field of this number
abbrev pub first_items : {A : Type 0} → List FieldDef → List (Items A) → ℕ → Option (Items A)
first_items (f ∷ fields) (i ∷ items) number = if f.number == number then Some i else first_items fields items number
first_items _ _ number = None

-- the one element of a list that has just one
abbrev pub only : List ℕ → Option ℕ
only (n ∷ []) = Some n
only _ = None

-- the only item of the first field of this number, where it has width 1
abbrev pub only_byte : {A : Type 0} → List FieldDef → List (Items A) → ℕ → Option ℕ
only_byte fields items number = option_and_then (λ i. if i.width == 1 then only i.bits else None) (first_items fields items number)

-- Fields 0, 1 and 2 are the developer data index, the field number and the base type code.
abbrev pub description : {A : Type 0} → MessageDef A → Values A → Option Description
description d v =
    if d.global == 206 then
    option_and_then (λ index. option_and_then (λ number. option_and_then (λ code.
    Some (record { key = record { index = index; number = number }; code = code }))
    (only_byte d.fields v.fields 2)) (only_byte d.fields v.fields 1)) (only_byte d.fields v.fields 0)
    else None

-- A description replaces the earlier one of its developer field (section "Field Description Message").
abbrev pub describe : {A : Type 0} → Environment A → Option Description → Environment A
describe e None = e
describe e (Some s) = record e { described = insert_entry dev_key_cmp e.described s.key s.code }

-- the developer fields of a definition, none where it has no such part
abbrev pub dev_defs : Option (List DevDef) → List DevDef
dev_defs fields = unwrap_or fields []

-- a definition with the codes that its developer fields have now
abbrev pub defined_by : {A : Type 0} → Environment A → MessageDef A → Defined A
defined_by e d = record { definition = d; dev_codes = map (dev_code e) (dev_defs d.dev) }

-- what a data message describes by the definition of its local message type
abbrev pub described_by : {A : Type 0} → Environment A → Values A → Option Description
described_by e v = option_and_then (λ p. description p.definition v) (defined_at e v.local)

-- The environment after a record. A definition takes its place; a description sets the code of its developer field.
abbrev pub learn : {A : Type 0} → Environment A → Record A → Environment A
learn e (Define d) = record e { places = slice_set e.places d.local (Some (defined_by e d)) }
learn e (Data v) = describe e (described_by e v)

-- A data message that describes no developer field.
abbrev pub DescribesNothing : {A : Type 0} → Environment A → Record A → Type 0
DescribesNothing e (Define d) = ⊥
DescribesNothing e (Data v) = described_by e v ≡ None

-- the environment after records
abbrev pub learn_all : {A : Type 0} → Environment A → List (Record A) → Environment A
learn_all e [] = e
learn_all e (r ∷ records) = learn_all (learn e r) records
