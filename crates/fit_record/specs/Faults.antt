-- Why a record can't be next in an environment: the first reason, in the order of the faults.
use Rattle.std.specs.Prelude.{ℕ, ◌+◌, ◌<◌, ◌^◌, nat_lt, if◌then◌else◌, List, [], ◌∷◌, length, Option, Some, None, option_map}
use Rattle.fit_base.specs.declared.items.Items.{Items}
use Rattle.fit_base.specs.Fields.{has_shape}
use Rattle.fit_record.specs.declared.definition.MessageDef.{MessageDef}
use Rattle.fit_record.specs.declared.message.Values.{Values}
use Rattle.fit_record.specs.declared.message.Record.{Record}
use Rattle.fit_record.specs.declared.message.Record.TheVariants.{Define, Values as Data}
use Rattle.fit_record.specs.declared.environment.Defined.{Defined}
use Rattle.fit_record.specs.declared.fits.ShapeFault.{ShapeFault}
use Rattle.fit_record.specs.declared.fits.ShapeFault.TheVariants.{BadLocal, BadOffset, UndefinedLocal, WrongShape}
use Rattle.fit_record.specs.Environment.{Environment, defined_at, dev_defs}
use Rattle.fit_record.specs.Records.{layout, dev_layout}

-- the first that there is
abbrev pub or_else : {X : Type 0} → Option X → Option X → Option X
or_else None other = other
or_else (Some x) other = Some x

-- The first place whose items aren't as defined, counted from `place`. Where one list ends before the other, it is the next one.
abbrev pub wrong_from : {A : Type 0} → ℕ → List (ℕ × ℕ) → List (Items A) → Option ℕ
wrong_from place [] [] = None
wrong_from place (f ∷ fields) (i ∷ items) = if has_shape f.0 f.1 i then wrong_from (place + 1) fields items else Some place
wrong_from place _ _ = Some place

-- Developer fields are counted on from the number of fields that are defined.
abbrev pub wrong_place : {A : Type 0} → Defined A → Values A → Option ℕ
wrong_place p v = or_else (wrong_from 0 (layout p) v.fields) (wrong_from (length p.definition.fields) (dev_layout p) v.dev)

-- the header of a data message
abbrev pub header_fault : ℕ → Option ℕ → Option ShapeFault
header_fault local None = if nat_lt local 16 then None else Some BadLocal
header_fault local (Some offset) = if nat_lt local 4 then (if nat_lt offset 32 then None else Some BadOffset) else Some BadLocal

-- what follows it
abbrev pub body_fault : {A : Type 0} → Option (Defined A) → Values A → Option ShapeFault
body_fault None v = Some UndefinedLocal
body_fault (Some p) v = option_map WrongShape (wrong_place p v)

-- A list of more than 255 has its first surplus place at 255.
abbrev pub definition_fault : {A : Type 0} → MessageDef A → Option ShapeFault
definition_fault d =
    if nat_lt d.local 16 then
    (if nat_lt (length d.fields) 256 then
    (if nat_lt (length (dev_defs d.dev)) 256 then None else Some (WrongShape (length d.fields + 255)))
    else Some (WrongShape 255))
    else Some BadLocal

-- of a data message: its header first
abbrev pub data_fault : {A : Type 0} → Environment A → Values A → Option ShapeFault
data_fault e v = or_else (header_fault v.local v.offset) (body_fault (defined_at e v.local) v)

-- of any record
abbrev pub first_fault : {A : Type 0} → Environment A → Record A → Option ShapeFault
first_fault e (Define d) = definition_fault d
first_fault e (Data v) = data_fault e v

-- The global message number is one of two bytes.
abbrev pub HasRange : {A : Type 0} → Record A → Type 0
HasRange (Define d) = d.global < 2 ^ 16
HasRange (Data v) = Unit {0}
