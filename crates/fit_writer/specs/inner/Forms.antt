-- What the code finds of a message before it is put. No public contract names these.
use Rattle.std.specs.Prelude.{◌≡◌, ◌==◌, ◌*◌, ℕ, if◌then◌else◌, List, [], ◌∷◌, Option, Some, None, option_and_then, slice_get}
use Rattle.fit_base.specs.BaseTypes.{item_width}
use Rattle.fit_record.specs.declared.definition.FieldDef.{FieldDef}
use Rattle.fit_profile.specs.Described.{Naming}
use Rattle.fit_profile.specs.Times.{time_in_field}
use Rattle.fit_from_messages.specs.Parts.{items_read}
use Rattle.fit_from_messages.specs.declared.slot.Slot.{Slot}

-- the time that a field holds whose items are there
abbrev pub slot_time : List ℕ → FieldDef → Slot → Option ℕ
slot_time block f s = time_in_field f (items_read block s)

-- that of the first timestamp
abbrev pub first_time : List ℕ → List FieldDef → List Slot → Option ℕ
first_time block (f ∷ fields) (s ∷ slots) = if f.number == 253 then slot_time block f s else first_time block fields slots
first_time block _ _ = None

-- The first slots have the widths and sizes of the fields; there may be more.
abbrev pub FieldsFit : List FieldDef → List Slot → Type 0
FieldsFit [] slots = Unit {0}
FieldsFit (f ∷ fields) (s ∷ slots) = (s.width ≡ item_width f.code f.size) × (s.width * s.count ≡ f.size) × FieldsFit fields slots
FieldsFit (f ∷ fields) [] = ⊥

-- the text of some bytes, none where there are none
abbrev pub some_text : List ℕ → Option (List ℕ)
some_text [] = None
some_text (b ∷ bytes) = Some (b ∷ bytes)

-- A name and a unit are those of a naming.
abbrev pub AreTexts : Option (List ℕ) → Option (List ℕ) → Naming → Type 0
AreTexts name unit n = (name ≡ n.name) × (unit ≡ n.unit)

-- The naming at a place has this name and this unit; where none is there, neither is.
abbrev pub HasNaming : List Naming → ℕ → Naming → Type 0
HasNaming namings place n =
    AreTexts (option_and_then (λ t. t.name) (slice_get namings place)) (option_and_then (λ t. t.unit) (slice_get namings place)) n
