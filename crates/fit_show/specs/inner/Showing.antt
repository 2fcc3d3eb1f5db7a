-- What the parts of `show` do. No public contract names these.
use Rattle.std.specs.Prelude.{ℕ, ◌+◌, ◌==◌, if◌then◌else◌, List, [], ◌∷◌, ◌++◌, drop, length, map, zip, codes, decimal, Option, None}
use Rattle.fit_base.specs.declared.items.Items.{Items}
use Rattle.fit_record.specs.declared.definition.FieldDef.{FieldDef}
use Rattle.fit_profile.specs.Profile.{Meaning}
use Rattle.fit_profile.specs.Names.{field, field_label, message_label}
use Rattle.fit_texts.specs.Words.{unit_text}
use Rattle.fit_show.specs.ShowLines.{joined, listed, message_front, separator, shown_part}
use Rattle.fit_shown.specs.Shown.{shown_cell}
use Rattle.fit_texts.specs.MessageKeys.{DevKey, MessageKey, TemplateKey}

-- ---- what stands around the values in the line of a message

-- a field or a developer field: its name, its unit, and how its cell is made of its items
pub record PartKey : Type 0 where
  pub name : List ℕ
  pub unit : List ℕ
  pub code : ℕ
  pub size : ℕ
  pub info : Option Meaning

-- a field of a message of a global number
abbrev pub field_part : ℕ → FieldDef → PartKey
field_part global f = record {
  name = field_label global f.number;
  unit = unit_text (field global f.number);
  code = f.code;
  size = f.size;
  info = field global f.number;
}

-- a developer field
abbrev pub dev_field_part : DevKey → PartKey
dev_field_part d = record { name = d.name; unit = d.unit; code = d.code; size = d.size; info = None }

-- fields or developer fields, each with its items
abbrev pub part_texts : {A : Type 0} → List PartKey → List (Items A) → List (List ℕ)
part_texts parts items = map (λ x. shown_part x.0.name (shown_cell x.0.code x.0.info x.1) x.0.unit) (zip parts items)

-- What comes after the cell of a field, up to the next one or to the end of the line: the first where the cell is empty, the second
-- where it isn't; and how its items are read.
pub record ShownKey : Type 0 where
  pub bare : List ℕ
  pub full : List ℕ
  pub code : ℕ
  pub size : ℕ
  pub info : Option Meaning

-- a unit after a space, where there is one
abbrev pub spaced : List ℕ → List ℕ
spaced unit = if length unit == 0 then [] else joined (codes " " ∷ unit ∷ [])

-- what stands before the cell of the first of these fields, which comes after that many others; where there is none, this end
abbrev pub first_head : ℕ → List PartKey → List ℕ → List ℕ
first_head before [] end = end
first_head before (p ∷ parts) end = joined (separator before ∷ p.name ∷ codes "=" ∷ [])

-- a field with this unit, by what comes after it
abbrev pub shown_key : PartKey → List ℕ → ShownKey
shown_key p head = record {
  bare = head;
  full = spaced p.unit ++ head;
  code = p.code;
  size = p.size;
  info = p.info;
}

-- fields one after another, after that many others and before this end
abbrev pub shown_keys : ℕ → List PartKey → List ℕ → List ShownKey
shown_keys before [] end = []
shown_keys before (p ∷ parts) end = shown_key p (first_head (before + 1) parts end) ∷ shown_keys (before + 1) parts end

abbrev pub key_text : {A : Type 0} → ShownKey → Items A → List ℕ
key_text k i = shown_cell k.code k.info i ++ (if length (shown_cell k.code k.info i) == 0 then k.bare else k.full)

-- the text of fields one after another
abbrev pub keys_text : {A : Type 0} → List ShownKey → List (Items A) → List ℕ
keys_text (k ∷ keys) (i ∷ items) = key_text k i ++ keys_text keys items
keys_text _ _ = []

-- what stands before the time of a message
abbrev pub line_front : ℕ → ℕ → List ℕ
line_front local global = joined (codes "  " ∷ decimal local ∷ codes " " ∷ message_label global ∷ [])

abbrev pub own_parts : TemplateKey → List PartKey
own_parts k = map (field_part k.global) k.fields

-- what comes after the cells of the fields
abbrev pub own_end : MessageKey → List ℕ
own_end k = first_head (length k.own.fields) (map dev_field_part k.devs) (codes "\n")

-- what stands before the first cell
abbrev pub line_head : MessageKey → List ℕ
line_head k = first_head 0 (own_parts k.own) (own_end k)

-- what comes after the cells of fields and developer fields
abbrev pub line_keys : MessageKey → List ShownKey
line_keys k = shown_keys 0 (own_parts k.own) (own_end k) ++ shown_keys (length k.own.fields) (map dev_field_part k.devs) (codes "\n")

-- base type codes and sizes of fields and developer fields
abbrev pub line_shapes : MessageKey → List (ℕ × ℕ)
line_shapes k = map (λ f. (f.code, f.size)) k.own.fields ++ map (λ d. (d.code, d.size)) k.devs

-- the line of a message by its time and the items of its fields and developer fields
abbrev pub line_text : {A : Type 0} → MessageKey → Option ℕ → List (Items A) → List ℕ
line_text k at items =
    message_front k.own.local k.own.global at
    ++ listed 0 (part_texts (own_parts k.own) items ++ part_texts (map dev_field_part k.devs) (drop (length k.own.fields) items)) ++ codes "\n"
