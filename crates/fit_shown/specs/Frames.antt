-- What stands before a value in its row, how the value is read, and the items of fields, taken one after another.
use Rattle.std.specs.Prelude.{◌≡◌, ◌≤◌, ℕ, List, [], ◌∷◌, ◌++◌, Option, drop, length}
use Rattle.std.specs.Global.{Global}
use Rattle.csv.specs.Writing.{default_writer, field_text}
use Rattle.fit_base.specs.declared.items.Items.{Items}
use Rattle.fit_base.specs.declared.number.Order.{Order}
use Rattle.fit_record.specs.ReadMessages.{field_from, fields_from}
use Rattle.fit_record.specs.Records.{sizes}
use Rattle.fit_profile.specs.Profile.{Meaning}
use Rattle.fit_cells.specs.Cells.{cell}
use Rattle.fit_cells.specs.Rows.{Cell}
use Rattle.fit_shown.specs.declared.items.ItemBytes.{ItemBytes}

-- two cells, each with a comma after it
abbrev pub two_cells : Cell → Cell → List ℕ
two_cells a b = field_text default_writer a ++ 44 ∷ (field_text default_writer b ++ 44 ∷ [])

-- what is kept for a row: what stands between the value before and its own, and how its own is read
pub record FrameText : Type 0 where
  pub between : List ℕ
  pub code : ℕ
  pub size : ℕ
  pub info : Option Meaning

-- the text of a value by the bytes of its field
abbrev pub field_in_row : FrameText → Order → List ℕ → List ℕ
field_in_row f order bytes = field_text default_writer (cell f.code f.info (field_from {A = Global} order (f.code, f.size) bytes))

-- ---- the items of fields, one field after another, where they are known by a relation with the codes and sizes of the fields

-- The bytes are those of fields with these codes and sizes, and these are the items.
abbrev pub HasItems : ItemBytes → List (ℕ × ℕ) → List (Items Global) → Type 0
HasItems s fields items = (length s.rest.now ≡ sizes fields) × (items ≡ fields_from s.order fields s.rest.now)

-- The next fields have these codes and sizes.
abbrev pub HasFields : {S : Type 0} → (S → List (ℕ × ℕ) → List (Items Global) → Type 0) → S → List (ℕ × ℕ) → Type 0
HasFields has_items s fields = (more : List (ℕ × ℕ)) × (items : List (Items Global)) × has_items s (fields ++ more) items

-- The items of the next field, of this code and size, were taken, and this was done with them.
abbrev pub TakesField : {S : Type 0} → (S → List (ℕ × ℕ) → List (Items Global) → Type 0) → S → S → ℕ × ℕ → (Items Global → Type 0) → Type 0
TakesField has_items old new f Done = (more : List (ℕ × ℕ)) (items : List (Items Global)) → has_items old (f ∷ more) items
    → (i : Items Global) × (rest : List (Items Global)) × (items ≡ i ∷ rest) × has_items new more rest × Done i

-- The items of the next fields were taken, and this was done with them, which are the first of these.
abbrev pub TakesFields : {S : Type 0} → (S → List (ℕ × ℕ) → List (Items Global) → Type 0) → S → S → List (ℕ × ℕ) → (List (Items Global) → Type 0) → Type 0
TakesFields has_items old new fields Done = (more : List (ℕ × ℕ)) (items : List (Items Global)) → has_items old (fields ++ more) items
    → (length fields ≤ length items) × has_items new more (drop (length fields) items) × Done items
