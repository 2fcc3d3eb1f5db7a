-- What holds of each definition in its place.
use Rattle.std.specs.Prelude.{◌≡◌, ◌<◌, length}
use Rattle.fit_record.specs.declared.environment.Defined.{Defined}
use Rattle.fit_record.specs.Environment.{dev_defs}

-- Its lists have at most 255 entries, and there is a code for each developer field.
pub record IsSound {A : Type 0} (p : Defined A) : Type 0 where
  pub fields : length p.definition.fields < 256
  pub dev_fields : length (dev_defs p.definition.dev) < 256
  pub codes : length p.dev_codes ≡ length (dev_defs p.definition.dev)
