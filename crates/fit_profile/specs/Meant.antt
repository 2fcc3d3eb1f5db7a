-- What a message shows.
use Rattle.std.specs.Prelude.{◌≡◌, ℕ, List, Option, Some, None, option_map, option_and_then, slice_get, IsSomeAnd}
use Rattle.fit_base.specs.declared.items.Items.{Items}
use Rattle.fit_record.specs.declared.environment.Defined.{Defined}
use Rattle.fit_record.specs.declared.definition.FieldDef.{FieldDef}
use Rattle.fit_record.specs.declared.definition.MessageDef.{MessageDef}
use Rattle.fit_record.specs.declared.message.Values.{Values}
use Rattle.fit_record.specs.declared.message.Record.{Record}
use Rattle.fit_record.specs.declared.message.Record.TheVariants.{Define, Values as Data}
use Rattle.fit_record.specs.Environment.{defined_at, dev_defs}
use Rattle.fit_profile.specs.declared.message.FieldView.{FieldView}
use Rattle.fit_profile.specs.declared.message.Message.{Message}
use Rattle.fit_profile.specs.declared.told.Told.{Told}
use Rattle.fit_profile.specs.Looks.{known}
use Rattle.fit_profile.specs.Told.{told}
use Rattle.fit_profile.specs.Described.{Naming, namings_at}

-- What a message shows: its values, their definition, the codes, names and units of its developer fields, its times and accumulated values.
pub record Shown (A : Type 0) : Type 0 where
  pub values : Values A
  pub definition : MessageDef A
  pub dev_codes : List ℕ
  pub namings : List Naming
  pub told : Told

-- what a message shows by the parts that it lends
abbrev pub shown : {A : Type 0} → Message A → Shown A
shown m = record {
  values = m.values.now;
  definition = m.defined.now.definition;
  dev_codes = m.defined.now.dev_codes;
  namings = m.texts.now;
  told = m.told;
}

-- what a message is to show after these records
abbrev pub meant : {A : Type 0} → List (Record A) → Values A → Defined A → Shown A
meant earlier v p = record {
  values = v;
  definition = p.definition;
  dev_codes = p.dev_codes;
  namings = namings_at earlier v.local;
  told = told earlier v;
}

-- A definition gives no message. A data message gives one that shows what is meant after the records before it, latest first.
abbrev pub MessageOf : {A : Type 0} → List (Record A) → Record A → Option (Message A) → Type 0
MessageOf earlier (Define d) m = m ≡ None
MessageOf earlier (Data v) None = ⊥
MessageOf earlier (Data v) (Some m) = IsSomeAnd (defined_at (known earlier) v.local) (λ p. shown m ≡ meant earlier v p)

-- ---- the parts of a message by their places, which count from 0

-- a field: its number, its code and its items
pub record FieldPart (A : Type 0) : Type 0 where
  pub number : ℕ
  pub code : ℕ
  pub items : Items A

-- what a view of a field says
abbrev pub part_of : {A : Type 0} → FieldView A → FieldPart A
part_of f = record { number = f.number; code = f.code; items = f.items.now }

-- a field with its items
abbrev pub first_part : {A : Type 0} → FieldDef × Items A → FieldPart A
first_part f = record { number = f.0.number; code = f.0.code; items = f.1 }

-- the field at a place, and its items
abbrev pub field_at : {A : Type 0} → Shown A → ℕ → Option (FieldPart A)
field_at m place =
    option_and_then (λ f. option_map (λ i. record { number = f.number; code = f.code; items = i }) (slice_get m.values.fields place))
    (slice_get m.definition.fields place)

-- the developer field at a place, with the code that its description gave, and its items
abbrev pub dev_field_at : {A : Type 0} → Shown A → ℕ → Option (FieldPart A)
dev_field_at m place =
    option_and_then (λ f. option_and_then (λ code. option_map (λ i. record { number = f.number; code = code; items = i })
    (slice_get m.values.dev place)) (slice_get m.dev_codes place)) (slice_get (dev_defs m.definition.dev) place)
