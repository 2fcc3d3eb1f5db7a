-- What a message shows by what is kept. No public contract names this definition.
use Rattle.std.specs.Prelude.{◌≡◌, Some}
use Rattle.fit_record.specs.declared.message.Values.{Values}
use Rattle.fit_record.specs.Environment.{Environment, defined_at}
use Rattle.fit_profile.specs.declared.names.Names.{Names}
use Rattle.fit_profile.specs.declared.told.Told.{Told}
use Rattle.fit_profile.specs.inner.Keeps.{namings_in}
use Rattle.fit_profile.specs.Meant.{Shown}

-- the values, their definition, names and units, times and accumulated values
pub record Shows {A : Type 0} (env : Environment A) (names : Names A) (told : Told) (v : Values A) (m : Shown A) : Type 0 where
  pub values : m.values ≡ v
  pub defined : Some (record { definition = m.definition; dev_codes = m.dev_codes }) ≡ defined_at env v.local
  pub namings : m.namings ≡ namings_in names v.local
  pub told_is : m.told ≡ told
