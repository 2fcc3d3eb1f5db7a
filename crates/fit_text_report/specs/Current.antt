-- What was found out of definitions, and of which it is known that it is that of the definition that counts.
use Rattle.std.specs.Prelude.{◌≡◌, ℕ, List, Option, Some, slice_get, true}
use Rattle.std.specs.Global.{Global}
use Rattle.fit_record.specs.Environment.{defined_at}
use Rattle.fit_record.specs.declared.environment.Defined.{Defined}
use Rattle.fit_record.specs.declared.message.Record.{Record}
use Rattle.fit_profile.specs.Described.{Naming, namings_at}
use Rattle.fit_profile.specs.Looks.{known}
use Rattle.fit_text_report.specs.declared.found.Findings.{Findings}

-- If what was found for this local message type is known to be that of its definition, it is this.
abbrev pub IsCurrent : {T : Type 0} → Findings T → ℕ → T → Type 0
IsCurrent found local item = slice_get found.current local ≡ Some true → slice_get found.items.items local ≡ Some (Some item)

-- Of no local message type is it known that what was found is that of its definition.
abbrev pub NoneAreCurrent : {T : Type 0} → Findings T → Type 0
NoneAreCurrent found = (local : ℕ) → slice_get found.current local ≡ Some true → ⊥

-- What is known is that of the definition of its local message type after these records.
abbrev pub AreCurrent : {T : Type 0} → (ℕ → Defined Global → List Naming → T) → Findings T → List (Record Global) → Type 0
AreCurrent found_of found before = (local : ℕ) (p : Defined Global) → defined_at (known before) local ≡ Some p
    → IsCurrent found local (found_of local p (namings_at before local))

-- What was found stays at its place.
abbrev pub KeepsOthers : {T : Type 0} → List (Option T) → List (Option T) → Type 0
KeepsOthers {T} old new = (place : ℕ) (item : T) → slice_get old place ≡ Some (Some item) → slice_get new place ≡ Some (Some item)
