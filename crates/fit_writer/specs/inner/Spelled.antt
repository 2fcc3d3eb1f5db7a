-- The bytes of a message that is put. No public contract names these.
use Rattle.std.specs.Prelude.{◌≡◌, ◌++◌, ℕ, List, Option, Some}
use Rattle.std.specs.Global.{Global}
use Rattle.fit_base.specs.declared.number.Order.{Order}
use Rattle.fit_record.specs.declared.environment.Defined.{Defined}
use Rattle.fit_record.specs.declared.message.Record.TheVariants.{Values as Data}
use Rattle.fit_record.specs.Environment.{Environment, defined_at}
use Rattle.fit_record.specs.Records.{IsRecord, dev_layout, layout}
use Rattle.fit_from_messages.specs.Slots.{SlotsFit}
use Rattle.fit_writer.specs.Reading.{Form, values_by}

-- The bytes are those of the message wherever its local message type has a definition in this byte order with as many fields, which have the
-- shapes of its items.
abbrev pub IsSpelled : Form → List ℕ → Order → ℕ → Option ℕ → List ℕ → Type 0
IsSpelled f block order local offset bytes =
    (e : Environment Global) (p : Defined Global) → defined_at e local ≡ Some p → p.definition.order ≡ order
    → p.definition.fields ≡ f.definition.fields → SlotsFit (layout p ++ dev_layout p) f.slots → IsRecord e (Data (values_by f block local offset)) bytes
