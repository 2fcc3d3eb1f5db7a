-- What the last byte of a record added to what there was of it. No public contract names this.
use Rattle.std.specs.Prelude.{◌≡◌, ℕ, ◌<◌, [], ◌∷◌, ◌++◌, length, Option, Some, None, IsSome}
use Rattle.fit_record.specs.declared.definition.FieldDef.{FieldDef}
use Rattle.fit_record.specs.declared.definition.DevDef.{DevDef}
use Rattle.fit_record.specs.declared.definition.MessageDef.{MessageDef}
use Rattle.fit_record.specs.declared.message.Record.{Record}
use Rattle.fit_record.specs.declared.message.Record.TheVariants.{Define, Values as Data}
use Rattle.fit_record.specs.Environment.{dev_defs}
use Rattle.fit_step.specs.declared.phase.DefinitionPhase.{DefinitionPhase}
use Rattle.fit_step.specs.declared.phase.DefinitionPhase.TheVariants.{FieldCode, DevIndex}
use Rattle.fit_step.specs.declared.phase.Phase.{Phase}
use Rattle.fit_step.specs.declared.phase.Phase.TheVariants.{RecordHeader, Definition, FieldItems, DevItems}
use Rattle.fit_step.specs.Machine.{add_number}

-- a field, a developer field, or nothing
abbrev pub AddsEntry : {A : Type 0} → DefinitionPhase → MessageDef A → MessageDef A → Type 0
AddsEntry (FieldCode left number size) d after = (f : FieldDef) × (after ≡ record d { fields = d.fields ++ f ∷ [] })
AddsEntry (DevIndex left number size) d after = (f : DevDef) × IsSome d.dev × (after ≡ record d { dev = Some (dev_defs d.dev ++ f ∷ []) })
AddsEntry k d after = after ≡ d

-- The byte read at this phase made the first of these, which was in progress, the second, which is whole.
abbrev pub Adds : {A : Type 0} → Phase → Option (Record A) → Record A → Type 0
Adds RecordHeader before r = before ≡ None
Adds (Definition k) (Some (Define d)) (Define after) = AddsEntry k d after
Adds (FieldItems place width left) (Some (Data v)) (Data after) =
    (n : ℕ) × (place < length v.fields) × (after ≡ record v { fields = add_number place v.fields n })
Adds (DevItems place width left) (Some (Data v)) (Data after) = (n : ℕ) × (place < length v.dev) × (after ≡ record v { dev = add_number place v.dev n })
Adds phase before r = ⊥
