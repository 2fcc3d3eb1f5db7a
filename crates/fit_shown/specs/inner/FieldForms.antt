-- What is kept of a field to show its value, and how rows and lines show it alike. No public contract names these definitions.
use Rattle.std.specs.Prelude.{◌≡◌, ◌%◌, ◌++◌, ℕ, List, Option, IfSome, option_map}
use Rattle.std.specs.Global.{Global}
use Rattle.csv.specs.Writing.{default_writer, field_text}
use Rattle.fit_base.specs.BaseTypes.{base_type}
use Rattle.fit_base.specs.declared.code.Class.TheVariants.{Float as FloatClass, Text as TextClass}
use Rattle.fit_base.specs.declared.number.Order.{Order}
use Rattle.fit_record.specs.ReadMessages.{field_from}
use Rattle.fit_profile.specs.Names.{meaning}
use Rattle.fit_profile.specs.Profile.{Meaning}
use Rattle.fit_numbers.specs.Scaled.{IsScale}
use Rattle.fit_cells.specs.Cells.{cell}
use Rattle.fit_cells.specs.Forms.{IsFormOf, IsSmallForm}
use Rattle.fit_texts.specs.Octets.{IsOfBytes}
use Rattle.fit_shown.specs.Shown.{shown_cell}
use Rattle.fit_shown.specs.declared.form.FieldForm.{FieldForm}
use Rattle.fit_shown.specs.declared.form.FieldKind.{FieldKind}
use Rattle.fit_shown.specs.declared.form.FieldKind.TheVariants.{Lone, Several, Float, Bytes, Text, Other}

-- The value of a field of this base type code and size is of a kind. Of numbers their form says it.
abbrev pub IsFieldKind : ℕ → ℕ → FieldKind → Type 0
IsFieldKind code size Lone = Unit {0}
IsFieldKind code size Several = Unit {0}
IsFieldKind code size Float = ((base_type code).class ≡ FloatClass) × ((base_type code).width ≡ size)
IsFieldKind code size Bytes = IsOfBytes code size
IsFieldKind code size Text = (base_type code).class ≡ TextClass
IsFieldKind code size Other = Unit {0}

-- what the profile says of a field
abbrev pub field_meaning : FieldForm → Option Meaning
field_meaning f = option_map meaning f.info

-- what a form promises
pub record IsFieldForm (f : FieldForm) : Type 0 where
  pub scale : IfSome f.info (λ i. IsScale i.scale)
  pub small : IfSome f.number IsSmallForm
  pub whole : IfSome f.number (λ n. f.size % n.width ≡ 0)
  pub form : IfSome f.number (IsFormOf f.code.0 (field_meaning f))
  pub lone : f.kind ≡ Lone → IfSome f.number (λ n. n.width ≡ f.size)
  pub kind : IsFieldKind f.code.0 f.size f.kind

-- A row and a line show the value of a field by its bytes as the same text, and it comes after another.
abbrev pub IsShownAfter : FieldForm → Order → List ℕ → List ℕ → List ℕ → Type 0
IsShownAfter f order bytes old new = let items = field_from {A = Global} order (f.code.0, f.size) bytes in
    (new ≡ old ++ field_text default_writer (cell f.code.0 (field_meaning f) items)) × (new ≡ old ++ shown_cell f.code.0 (field_meaning f) items)
