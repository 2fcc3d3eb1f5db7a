-- Bytes and what is to come after them, and the items that are to come. No public contract names these.
use Rattle.std.specs.Prelude.{◌≡◌, ◌≤◌, ◌+◌, ℕ, All, List, ◌++◌, drop, flat_map, length, take}
use Rattle.std.specs.Global.{Global}
use Rattle.fit_base.specs.BaseTypes.{base_type}
use Rattle.fit_record.specs.ReadMessages.{fields_from}
use Rattle.fit_record.specs.Records.{dev_layout, layout, message_size, sizes}
use Rattle.fit_record.specs.declared.environment.Defined.{Defined}
use Rattle.fit_messages.specs.Blocks.{slot}

-- bytes, and after them what is written in a sheet before a place
abbrev pub with_sheet : List ℕ → List ℕ → ℕ → List ℕ
with_sheet bytes sheet at = bytes ++ take at sheet

-- the items of the fields that bytes begin with, and of the developer fields after them
abbrev pub slots_from : Defined Global → List ℕ → List ℕ
slots_from p body =
    let order = p.definition.order in
    flat_map slot (fields_from {A = Global} order (layout p) body)
    ++ flat_map slot (fields_from {A = Global} order (dev_layout p) (drop (sizes (layout p)) body))

-- each of these fields is one number, which is as long as its base type is wide
abbrev pub AreLone : List (ℕ × ℕ) → Type 0
AreLone slots = All (λ f. (base_type f.0).width ≡ f.1) slots

-- the fields of a message, but for developer fields, can be read by eight bytes each
abbrev pub IsQuick : Defined Global → List ℕ → Type 0
IsQuick p bytes = AreLone (layout p) × (message_size p + 8 ≤ length bytes)
