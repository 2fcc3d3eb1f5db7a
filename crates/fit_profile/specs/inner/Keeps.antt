-- What a stream keeps of the records so far. No public contract names these definitions.
use Rattle.std.specs.Prelude.{◌≡◌, ℕ, ◌==◌, ◌&&◌, Bool, List, [], Option, option_map, slice_index_or, unwrap_or}
use Rattle.std.specs.BTreeMap.{get}
use Rattle.fit_record.specs.declared.message.Record.{Record}
use Rattle.fit_record.specs.declared.definition.MessageDef.{MessageDef}
use Rattle.fit_record.specs.declared.message.Values.{Values}
use Rattle.fit_record.specs.declared.learn.DevKey.{DevKey}
use Rattle.fit_record.specs.Environment.{Environment, description, dev_key_cmp}
use Rattle.fit_profile.specs.declared.names.Described.{Described}
use Rattle.fit_profile.specs.declared.names.Names.{Names}
use Rattle.fit_profile.specs.declared.told.Last.{Last}
use Rattle.fit_profile.specs.Looks.{known}
use Rattle.fit_profile.specs.Told.{last_of}
use Rattle.fit_profile.specs.Described.{Naming, nameless, naming, naming_after, namings_after, naming_of, namings_at}

-- the developer field that a message describes, with its name and its unit
abbrev pub described : {A : Type 0} → MessageDef A → Values A → Option (Described A)
described d v = option_map (λ s. record { key = s.key; texts = naming d v }) (description d v)

-- this is the developer field of that index and number
abbrev pub is_key : DevKey → ℕ → ℕ → Bool
is_key key index number = key.index == index && key.number == number

-- the name and the unit that are kept for a developer field
abbrev pub naming_in : {A : Type 0} → Names A → ℕ → ℕ → Naming
naming_in names index number = unwrap_or (get dev_key_cmp names.described (record { index = index; number = number })) nameless

-- those that are kept for the developer fields of a local message type
abbrev pub namings_in : {A : Type 0} → Names A → ℕ → List Naming
namings_in names local = slice_index_or names.places.items local []

-- the names and units that are kept after a record, by those that were before it
abbrev pub AreNamesAfter : {A : Type 0} → Environment A → Record A → Names A → Names A → Type 0
AreNamesAfter e r before names =
    ((index number : ℕ) → naming_in names index number ≡ naming_after e r index number (naming_in before index number))
    × ((local : ℕ) → namings_in names local ≡ namings_after (naming_in before) r local (namings_in before local))

-- the same names and units are kept
abbrev pub AreSameNames : {A : Type 0} → Names A → Names A → Type 0
AreSameNames before names =
    ((index number : ℕ) → naming_in names index number ≡ naming_in before index number) × ((local : ℕ) → namings_in names local ≡ namings_in before local)

-- the environment, the last values, and the names and units are those of these records
pub record KeepsRecords {A : Type 0} (env : Environment A) (last : Last) (names : Names A) (earlier : List (Record A)) : Type 0 where
  pub env_is : env ≡ known earlier
  pub last_is : last ≡ last_of earlier
  pub naming_is : (index number : ℕ) → naming_in names index number ≡ naming_of earlier index number
  pub namings_are : (local : ℕ) → namings_in names local ≡ namings_at earlier local
