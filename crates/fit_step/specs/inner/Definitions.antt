-- A definition message in its bytes.
use Rattle.std.specs.Prelude.{◌≡◌, ℕ, ◌+◌, ◌*◌, ◌^◌, ◌<◌, ◌≤◌, Bool, true, false, if◌then◌else◌, List, ◌∷◌, ◌++◌, None, flat_map, length, take, drop}
use Rattle.fit_base.specs.Numbers.{number_bytes}
use Rattle.fit_record.specs.declared.definition.FieldDef.{FieldDef}
use Rattle.fit_record.specs.declared.definition.MessageDef.{MessageDef}
use Rattle.fit_record.specs.declared.message.Record.TheVariants.{Define}
use Rattle.fit_record.specs.Environment.{Environment, learn}
use Rattle.fit_record.specs.Records.{architecture, field_bytes}
use Rattle.fit_step.specs.declared.read_definition.Front.{Front}

-- what stands before its fields, and theirs, three for each
abbrev pub front_spelled : Bool → Front → List ℕ → List ℕ
front_spelled developer f entries =
    ((if developer then 0x60 else 0x40) + f.local) ∷ f.reserved ∷ architecture f.order ∷ number_bytes f.order 2 f.global ++ f.count ∷ entries

-- These bytes begin with a definition message, up to its fields and with them, which has developer fields or not.
pub record BeginsWith (developer : Bool) (f : Front) (entries bytes : List ℕ) : Type 0 where
  pub local : f.local < 16
  pub global : f.global < 2 ^ 16
  pub count : f.count < 256
  pub long : length entries ≡ 3 * f.count
  pub within : 6 + length entries ≤ length bytes
  pub is : take (6 + length entries) bytes ≡ front_spelled developer f entries

-- one without developer fields
abbrev pub definition_spelled : Front → List ℕ → List ℕ
definition_spelled f entries = front_spelled false f entries

abbrev pub Begins : Front → List ℕ → List ℕ → Type 0
Begins f entries bytes = BeginsWith false f entries bytes

-- After the fields of one come the number of its developer fields and their bytes, three for each.
pub record BeginsWide (f : Front) (entries : List ℕ) (count : ℕ) (devs bytes : List ℕ) : Type 0 where
  pub begins : BeginsWith true f entries bytes
  pub few : count < 256
  pub long : length devs ≡ 3 * count
  pub within : 7 + length entries + length devs ≤ length bytes
  pub is : take (1 + length devs) (drop (6 + length entries) bytes) ≡ count ∷ devs

-- the definition, by its fields
abbrev pub definition_of : {A : Type 0} → Front → List FieldDef → MessageDef A
definition_of f fields =
    record { local = f.local; reserved = f.reserved; order = f.order; global = f.global; fields = fields; dev = None }

-- These are its fields.
abbrev pub AreFields : Front → List ℕ → List FieldDef → Type 0
AreFields f entries fields = (length fields ≡ f.count) × (flat_map field_bytes fields ≡ entries)

-- It says what is known already.
abbrev pub SaysNothingNew : {A : Type 0} → Environment A → Front → List ℕ → Type 0
SaysNothingNew {A} e f entries = (fields : List FieldDef) × AreFields f entries fields × (learn e (Define (definition_of {A = A} f fields)) ≡ e)
