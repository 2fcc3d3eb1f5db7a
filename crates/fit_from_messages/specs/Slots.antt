-- Where the items of fields are.
use Rattle.std.specs.Prelude.{◌≡◌, ◌⊎◌, ℕ, ◌*◌, List, [], ◌∷◌}
use Rattle.fit_base.specs.BaseTypes.{item_width}
use Rattle.fit_from_messages.specs.declared.slot.Slot.{Slot}

-- how many bytes they have
abbrev pub slot_size : Slot → ℕ
slot_size s = s.width * s.count

-- Each has one of the widths of items.
abbrev pub IsSlot : Slot → Type 0
IsSlot s = (s.width ≡ 1) ⊎ (s.width ≡ 2) ⊎ (s.width ≡ 4) ⊎ (s.width ≡ 8)

-- The slots are of fields of these codes and sizes.
abbrev pub SlotsFit : List (ℕ × ℕ) → List Slot → Type 0
SlotsFit [] [] = Unit {0}
SlotsFit (f ∷ fields) (s ∷ slots) = (s.width ≡ item_width f.0 f.1) × (slot_size s ≡ f.1) × SlotsFit fields slots
SlotsFit _ _ = ⊥
