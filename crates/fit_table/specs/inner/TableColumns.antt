-- Where the numbers of the table stand in the bytes of record messages of a definition. No public contract names these definitions.
use Rattle.std.specs.Prelude.{◌≡◌, ◌≤◌, ◌<◌, ◌+◌, ◌==◌, ◌||◌, ℕ, Bool, List, Option, None, Some, false, drop, length, map, slice_index_or, take}
use Rattle.std.specs.Prelude.{ℤ, pos, IsSomeAnd, IfSome}
use Rattle.std.specs.Prelude.{if◌then◌else◌, option_and_then, option_map}
use Rattle.std.specs.Global.{Global}
use Rattle.fit_base.specs.declared.number.Order.{Order}
use Rattle.fit_base.specs.BaseTypes.{base_type, item_width}
use Rattle.fit_base.specs.declared.items.Items.{Items}
use Rattle.fit_record.specs.ReadMessages.{field_from, fields_from}
use Rattle.fit_record.specs.Records.{sizes}
use Rattle.fit_record.specs.declared.definition.FieldDef.{FieldDef}
use Rattle.fit_record.specs.declared.definition.MessageDef.{MessageDef}
use Rattle.fit_record.specs.declared.message.Values.{Values}
use Rattle.fit_numbers.specs.FixedText.{fixed_text}
use Rattle.fit_profile.specs.declared.told.Told.{Told}
use Rattle.fit_profile.specs.Described.{Naming}
use Rattle.fit_profile.specs.Looks.{first_field}
use Rattle.fit_profile.specs.Names.{field}
use Rattle.fit_profile.specs.Profile.{Meaning}
use Rattle.fit_profile.specs.Values.{first_number}
use Rattle.fit_cells.specs.Forms.{IsFormOf, IsSmallForm}
use Rattle.fit_cells.specs.Rows.{Cell}
use Rattle.fit_table.specs.inner.TableKinds.{IsOfKind}
use Rattle.fit_table.specs.Degrees.{degrees_of}
use Rattle.fit_table.specs.Table.{amount_text}
use Rattle.fit_table.specs.inner.TableCells.{PutsCell, shown_text}
use Rattle.fit_table.specs.declared.amounts.Amounts.{Amounts}
use Rattle.fit_table.specs.declared.columns.FieldPlace.{FieldPlace}
use Rattle.fit_table.specs.declared.columns.Places.{Places}
use Rattle.fit_table.specs.declared.columns.Spot.{Spot}
use Rattle.fit_table.specs.declared.columns.Column.{Column}
use Rattle.fit_table.specs.declared.columns.Column.TheVariants.{Absent, At, Wide}
use Rattle.fit_table.specs.declared.rows.TheConstants.{SHOWN, TABLED}
use Rattle.fit_table.specs.declared.numbers.in_bytes.NumbersInBytes.{NumbersInBytes}
use Rattle.fit_record.specs.declared.environment.Defined.{Defined}

-- the numbers of the fields whose positions the table shows
abbrev pub is_position : ℕ → Bool
is_position n = (n == 0) || (n == 1)

-- the number of another field that it shows, by the place of the field among these
abbrev pub shown_number : ℕ → ℕ
shown_number field = slice_index_or TABLED field 0

-- base type code and size of each field
abbrev pub shapes : List FieldDef → List (ℕ × ℕ)
shapes fields = map (λ f. (f.code, f.size)) fields

-- a field with an item of its base type
pub record HasItem (f : FieldDef) : Type 0 where
  pub width : item_width f.code f.size ≡ (base_type f.code).width
  pub room : (base_type f.code).width ≤ f.size

-- a spot in the bytes of a message
pub record IsIn (s : Spot) (bytes : List ℕ) : Type 0 where
  pub item : HasItem s.field
  pub within : s.offset + s.field.size ≤ length bytes

-- the form and the kind that are kept with a place
pub record IsKnown (p : FieldPlace) : Type 0 where
  pub small : IsSmallForm p.form
  pub form : IsSomeAnd (field 20 p.spot.field.number) (λ m. IsFormOf p.spot.field.code (Some m) p.form)
  pub width : p.form.width ≡ (base_type p.spot.field.code).width
  pub kind : IsOfKind p.kind p.spot.field.code p.form

-- The field holds no number, whatever its bytes.
abbrev pub ShowsNothing : FieldDef → Type 0
ShowsNothing f = (o : Order) (bytes : List ℕ) → first_number f (field_from {A = Global} o (f.code, f.size) bytes) ≡ None

-- the spot of a field after that many bytes
abbrev pub IsSpotAt : ℕ → FieldDef → Option Spot → Type 0
IsSpotAt offset f None = ShowsNothing f
IsSpotAt offset f (Some s) = (s.offset ≡ offset) × (s.field ≡ f) × HasItem f

-- the items of the field at a spot in the bytes of a message
abbrev pub items_at : Spot → Order → List ℕ → Items Global
items_at s o bytes = field_from o (s.field.code, s.field.size) (take s.field.size (drop s.offset bytes))

-- what the items of a field hold as those of the first field of this number of record messages, and what the profile says of it
abbrev pub meant_number : ℕ → FieldDef → Items Global → Option (ℤ × Meaning)
meant_number number f i = option_and_then (λ raw. option_map (λ m. (raw, m)) (field 20 number)) (first_number f i)

-- The number at a place in the bytes of a message was put in a cell, where it is valid; and whether it is.
abbrev pub PutsValue : FieldPlace → Order → List ℕ → Bool → List ℕ → List ℕ → Type 0
PutsValue p o bytes put old new = let f = p.spot.field in
    PutsCell (option_map (λ x. amount_text x.0 x.1.scale x.1.offset) (meant_number f.number f (items_at p.spot o bytes))) put old new

-- the spot of the first field of a number
pub record IsFirst (fields : List FieldDef) (number : ℕ) (s : Spot) : Type 0 where
  pub finds : (o : Order) (bytes : List ℕ) → first_field {A = Global} fields (fields_from o (shapes fields) bytes) number
      ≡ Some (s.field, items_at s o bytes)
  pub numbered : s.field.number ≡ number
  pub within : s.offset + s.field.size ≤ sizes (shapes fields)
  pub item : HasItem s.field

-- No field has the number.
abbrev pub HaveNone : List FieldDef → ℕ → Type 0
HaveNone fields number = (o : Order) (bytes : List ℕ) → first_field {A = Global} fields (fields_from o (shapes fields) bytes) number ≡ None

-- the number that a field holds, where there is one
abbrev pub held_number : Option (FieldDef × Items Global) → Option ℤ
held_number first = option_and_then (λ f. first_number f.0 f.1) first

-- the spot of the first field of a number, or none where that holds no number
abbrev pub IsSpot : List FieldDef → ℕ → Option Spot → Type 0
IsSpot fields number None = (o : Order) (bytes : List ℕ) → held_number (first_field fields (fields_from o (shapes fields) bytes) number) ≡ None
IsSpot fields number (Some s) = IsFirst fields number s

-- the column of the first field of a number
abbrev pub IsColumn : List FieldDef → ℕ → Column → Type 0
IsColumn fields number (At p) = IsFirst fields number p.spot × IsKnown p
IsColumn fields number Absent = IsSpot fields number None
IsColumn fields number (Wide s) = IsFirst fields number s

-- the position in a field, where there is one
abbrev pub degrees_of_first : Option (FieldDef × Items Global) → Option Cell
degrees_of_first first =
    option_and_then (λ (f : FieldDef × Items Global). if f.0.code == 0x85 then option_map (λ s. fixed_text (degrees_of s) 7) (first_number f.0 f.1) else None)
    first

-- the spot of the first field of a number, where that may be a position
abbrev pub IsPosition : List FieldDef → ℕ → Option Spot → Type 0
IsPosition fields number None = (o : Order) (bytes : List ℕ) → degrees_of_first (first_field fields (fields_from o (shapes fields) bytes) number) ≡ None
IsPosition fields number (Some s) = IsFirst fields number s × (s.field.code ≡ 0x85)

-- the columns of the fields that the table shows, but for the position
abbrev pub AreColumns : List FieldDef → List Column → Type 0
AreColumns fields columns = (field : ℕ) → field < SHOWN → IsColumn fields (shown_number field) (slice_index_or columns field Absent)

-- the columns of the table, and whether a field may have a distance to accumulate
pub record ArePlaces (fields : List FieldDef) (p : Places) : Type 0 where
  pub counts : p.counts ≡ false → HaveNone fields 8
  pub position_lat : IsPosition fields 0 p.position_lat
  pub position_long : IsPosition fields 1 p.position_long
  pub columns : AreColumns fields p.columns

-- the speed and the distance that a message tells
pub record AreAmounts (a : Amounts) (t : Told) : Type 0 where
  pub speed : shown_text a.speed ≡ option_map (λ n. amount_text (pos n) 100 0) t.speed
  pub distance : shown_text a.distance ≡ option_map (λ n. amount_text (pos n) 16 0) t.distance
  pub few_speed : IfSome a.speed (λ v. v.decimals ≤ 8)
  pub few_distance : IfSome a.distance (λ v. v.decimals ≤ 8)

-- It tells these, or neither.
abbrev pub TellsAmounts : Option Amounts → Told → Type 0
TellsAmounts None t = (t.speed ≡ None) × (t.distance ≡ None)
TellsAmounts (Some a) t = AreAmounts a t

-- These are the bytes of a record message with its numbers at these places, of this definition and with these values, which tells this of
-- a distance to accumulate.
pub record AreInBytes (p : Places) (o : Order) (bytes : List ℕ) (a : Option Amounts) (d : MessageDef Global) (v : Values Global) (t : Told) : Type 0 where
  pub places : ArePlaces d.fields p
  pub global : d.global ≡ 20
  pub fields : v.fields ≡ fields_from o (shapes d.fields) bytes
  pub within : sizes (shapes d.fields) ≤ length bytes
  pub tells : TellsAmounts a t

-- the same of what cells are written from
abbrev pub AreNumbers : NumbersInBytes → MessageDef Global → Values Global → Told → Type 0
AreNumbers n d v t = AreInBytes n.places.now n.order n.bytes.now (option_map (λ a. a.now) n.amounts) d v t

-- what the columns of the table are found out of, in a definition of a local message type with these names of its developer fields
abbrev pub column_fields : ℕ → Defined Global → List Naming → List FieldDef
column_fields local p namings = p.definition.fields
