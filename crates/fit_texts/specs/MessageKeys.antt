-- What is kept of a definition and its developer fields.
use Rattle.std.specs.Prelude.{ℕ, List, [], map, unwrap_or, zip}
use Rattle.std.specs.Global.{Global}
use Rattle.fit_record.specs.Environment.{dev_defs}
use Rattle.fit_record.specs.declared.definition.DevDef.{DevDef}
use Rattle.fit_record.specs.declared.definition.FieldDef.{FieldDef}
use Rattle.fit_record.specs.declared.environment.Defined.{Defined}
use Rattle.fit_record.specs.declared.message.Record.{Record}
use Rattle.fit_profile.specs.Described.{Naming, namings_at}
use Rattle.fit_texts.specs.Words.{dev_label}

-- a definition, as far as the text around the values of its fields depends on it
pub record TemplateKey : Type 0 where
  pub local : ℕ
  pub global : ℕ
  pub fields : List FieldDef

-- a developer field: its name, its unit, its described base type code and its size
pub record DevKey : Type 0 where
  pub name : List ℕ
  pub unit : List ℕ
  pub code : ℕ
  pub size : ℕ

-- that by its described code, with the name and the unit of a naming
abbrev pub dev_key : DevDef → ℕ → Naming → DevKey
dev_key f code n = record { name = dev_label f n; unit = unwrap_or n.unit []; code = code; size = f.size }

-- developer fields, each with its code and its naming
abbrev pub dev_keys : List DevDef → List ℕ → List Naming → List DevKey
dev_keys fields dev_codes namings = map (λ x. dev_key x.0.0 x.0.1 x.1) (zip (zip fields dev_codes) namings)

-- a definition and its developer fields, as far as the text around the values of its messages depends on them
pub record MessageKey : Type 0 where
  pub own : TemplateKey
  pub devs : List DevKey

-- that of a definition of a local message type, with these names and units of its developer fields
abbrev pub key_of : ℕ → Defined Global → List Naming → MessageKey
key_of local p namings = record {
  own = record { local = local; global = p.definition.global; fields = p.definition.fields };
  devs = dev_keys (dev_defs p.definition.dev) p.dev_codes namings;
}

-- the same after these records
abbrev pub message_key : List (Record Global) → ℕ → Defined Global → MessageKey
message_key before local p = key_of local p (namings_at before local)
