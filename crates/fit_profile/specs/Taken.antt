-- What a stream says of a data message that it takes in by its bytes.
use Rattle.std.specs.Prelude.{◌≡◌, ◌==◌, ◌&&◌, Bool}
use Rattle.std.specs.List.{list_all, list_any}
use Rattle.std.specs.Global.{Global}
use Rattle.fit_base.specs.BaseTypes.{base_type}
use Rattle.fit_record.specs.declared.definition.MessageDef.{MessageDef}
use Rattle.fit_record.specs.declared.message.Values.{Values}
use Rattle.fit_profile.specs.Accumulated.{is_counter}
use Rattle.fit_profile.specs.declared.message_bytes.Taken.{Taken}
use Rattle.fit_profile.specs.declared.told.Told.{Told}

-- each field is one number, which is as long as its base type is wide
abbrev pub has_lone_fields : {A : Type 0} → MessageDef A → Bool
has_lone_fields d = list_all (λ f. (base_type f.code).width == f.size) d.fields

-- It is said of a message of this definition, of which these times and values are told.
pub record IsTaken (t : Told) (v : Values Global) (d : MessageDef Global) (taken : Taken) : Type 0 where
  pub local : taken.local ≡ v.local
  pub offset : taken.offset ≡ v.offset
  pub counts : taken.may_count ≡ (d.global == 20 && list_any (λ f. is_counter f.number) d.fields)
  pub lone : taken.has_lone_fields ≡ has_lone_fields d
  pub told : taken.told ≡ t
