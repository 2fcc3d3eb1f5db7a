-- Time and heart rate of each record message, global message number 20.
use Rattle.std.specs.Prelude.{ℕ, ◌==◌, nat_lt, if◌then◌else◌, List, [], ◌∷◌, ◌++◌, Option, Some, None, option_and_then, option_map, unwrap_or}
use Rattle.fit_record.specs.declared.definition.MessageDef.{MessageDef}
use Rattle.fit_record.specs.declared.message.Values.{Values}
use Rattle.fit_record.specs.declared.message.Record.{Record}
use Rattle.fit_record.specs.declared.message.Record.TheVariants.{Define, Values as Data}
use Rattle.fit_record.specs.declared.file.FitFile.{FitFile}
use Rattle.fit_record.specs.Environment.{defined_at, only}
use Rattle.fit_profile.specs.Looks.{first_field, known}
use Rattle.fit_profile.specs.Times.{time}
use Rattle.fit_examples.specs.declared.moments.Moment.{Moment}

-- a uint8, whose greatest number means that there is none
abbrev pub valid_rate : ℕ → Option ℕ
valid_rate n = if nat_lt n 0xFF then Some n else None

-- the heart rate of a message: its first field 3, where that is one valid uint8
abbrev pub heart_rate : {A : Type 0} → MessageDef A → Values A → Option ℕ
heart_rate d v = option_and_then (λ f. if f.0.code == 0x02 then option_and_then valid_rate (only f.1.bits) else None) (first_field d.fields v.fields 3)

-- what a record says after the records before it in its file, latest first: one moment where it is a record message
abbrev pub record_moments : {A : Type 0} → List (Record A) → Record A → List Moment
record_moments before (Define d) = []
record_moments before (Data v) =
    unwrap_or (option_map
    (λ p. if p.definition.global == 20 then record { time = time before (Data v); heart_rate = heart_rate p.definition v } ∷ [] else [])
    (defined_at (known before) v.local)) []

-- what records say one after another
abbrev pub records_moments : {A : Type 0} → List (Record A) → List (Record A) → List Moment
records_moments before [] = []
records_moments before (r ∷ records) = record_moments before r ++ records_moments (r ∷ before) records

abbrev pub file_moments : {A : Type 0} → FitFile A → List Moment
file_moments f = records_moments [] f.records

-- a moment as a list
abbrev pub moments_in : Option Moment → List Moment
moments_in None = []
moments_in (Some moment) = moment ∷ []
