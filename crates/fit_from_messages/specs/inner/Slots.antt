-- What is known where a message's block comes, and which fields have items. No public contract names these.
use Rattle.std.specs.Prelude.{◌≡◌, ◌==◌, Bool, if◌then◌else◌, max, not, ℕ, List, [], ◌∷◌}
use Rattle.std.specs.Global.{Global}
use Rattle.fit_record.specs.Environment.{Environment}
use Rattle.fit_from_messages.specs.SaysChain.{Begun, known_to, slots_at}
use Rattle.fit_from_messages.specs.Slots.{slot_size}
use Rattle.fit_from_messages.specs.declared.slot.Slot.{Slot}

abbrev pub has_items : Slot → Bool
has_items s = not (slot_size s == 0)

-- the farthest place of those without items
abbrev pub reach_of : List Slot → ℕ
reach_of [] = 0
reach_of (s ∷ slots) = if has_items s then reach_of slots else max s.place (reach_of slots)

-- This is what the records of the file have defined and described, and where the last definition of this local message type says that the
-- items of its messages are.
abbrev pub Knows : Begun → Environment Global → ℕ → List Slot → Type 0
Knows f known local slots = (known_to f ≡ known) × (slots_at f local ≡ slots)
