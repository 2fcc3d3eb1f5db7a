-- A definition, and what a definition message without developer fields says before its fields.
use Rattle.std.specs.Prelude.{◌≡◌, None, length}
use Rattle.fit_record.specs.declared.definition.MessageDef.{MessageDef}
use Rattle.fit_step.specs.declared.read_definition.Front.{Front}

-- The definition says the same.
pub record BeginsAs {A : Type 0} (d : MessageDef A) (f : Front) : Type 0 where
  pub local : d.local ≡ f.local
  pub reserved : d.reserved ≡ f.reserved
  pub order : d.order ≡ f.order
  pub global : d.global ≡ f.global
  pub count : length d.fields ≡ f.count
  pub no_dev : d.dev ≡ None
