-- Which local message type a message gets, and when a definition message comes before it.
use Rattle.std.specs.Prelude.{◌≡◌, ℕ, List, [], ◌∷◌, Option, Some, None}
use Rattle.std.specs.Global.{Global}
use Rattle.fit_record.specs.declared.definition.DevDef.{DevDef}
use Rattle.fit_record.specs.declared.definition.MessageDef.{MessageDef}
use Rattle.fit_record.specs.declared.environment.Defined.{Defined}
use Rattle.fit_record.specs.declared.message.Record.{Record}
use Rattle.fit_record.specs.declared.message.Record.TheVariants.{Define}
use Rattle.fit_record.specs.Environment.{defined_at, dev_code, dev_defs}
use Rattle.fit_profile.specs.Described.{Naming, namings_at, naming_of}
use Rattle.fit_profile.specs.Looks.{known}
use Rattle.fit_writer.specs.Reading.{Form}

-- What is defined for a local message type is read as this form: the same fields, base types, names and units.
pub record SaysSame (before : List (Record Global)) (local : ℕ) (f : Form) (p : Defined Global) : Type 0 where
  pub defined : defined_at (known before) local ≡ Some p
  pub global : p.definition.global ≡ f.definition.global
  pub fields : p.definition.fields ≡ f.definition.fields
  pub dev : dev_defs p.definition.dev ≡ dev_defs f.definition.dev
  pub codes : p.dev_codes ≡ f.codes
  pub namings : namings_at before local ≡ f.namings

-- A developer field that is defined now gets this base type, name and unit.
abbrev pub IsDescribed : List (Record Global) → DevDef → ℕ → Naming → Type 0
IsDescribed before d code n = (dev_code (known before) d ≡ code) × (naming_of before d.index d.number ≡ n)

-- each of these developer fields
abbrev pub AreDescribed : List (Record Global) → List DevDef → List ℕ → List Naming → Type 0
AreDescribed before [] [] [] = Unit {0}
AreDescribed before (d ∷ devs) (code ∷ codes) (n ∷ namings) = IsDescribed before d code n × AreDescribed before devs codes namings
AreDescribed before _ _ _ = ⊥

-- A definition message that came now would be read as this form.
abbrev pub WouldSaySame : List (Record Global) → Form → Type 0
WouldSaySame before f = AreDescribed before (dev_defs f.definition.dev) f.codes f.namings

-- records with a definition message after them, where there is one
abbrev pub with_definition : Option (MessageDef Global) → List (Record Global) → List (Record Global)
with_definition None before = before
with_definition (Some d) before = Define d ∷ before

-- the same definition for another local message type
abbrev pub with_local : MessageDef Global → ℕ → MessageDef Global
with_local d local = record d { local = local }

-- Which of the local message types that its header can name a message of this form gets, and when a definition message comes before it: only
-- where none of them says the same, and where what is described now gives its developer fields these base types, names and units. A local
-- message type that says the same or is free is taken before others, and first of all that of the block of the definition.
pub record IsPlaced (before : List (Record Global)) (form : Form) (names : ℕ → Type 0) (defined : Option (MessageDef Global)) (local : ℕ) : Type 0 where
  pub own : (p : Defined Global) → names form.definition.local → SaysSame before form.definition.local form p → local ≡ form.definition.local
  pub fresh : (d : MessageDef Global) → defined ≡ Some d → (k : ℕ) (p : Defined Global) → names k → SaysSame before k form p → ⊥
  pub defines : (d : MessageDef Global) → defined ≡ Some d → (d ≡ with_local form.definition local) × WouldSaySame before form
  pub own_free : (d : MessageDef Global) → defined ≡ Some d → names form.definition.local → defined_at (known before) form.definition.local ≡ None
      → local ≡ form.definition.local
  pub free : (d : MessageDef Global) → defined ≡ Some d → (k : ℕ) → names k → defined_at (known before) k ≡ None
      → defined_at (known before) local ≡ None
