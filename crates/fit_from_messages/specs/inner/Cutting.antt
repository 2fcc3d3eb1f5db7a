-- Cutting the entries of a definition's block. No public contract names these.
use Rattle.std.specs.Prelude.{ℕ, zero, suc, ◌==◌, ◌&&◌, Bool, true, nat_lt, List, ◌∷◌, drop}
use Rattle.fit_base.specs.BaseTypes.{item_width}
use Rattle.fit_from_messages.specs.Parts.{entry_size, number_read}
use Rattle.fit_from_messages.specs.declared.slot.Slot.{Slot}

-- what is left of bytes after that many entries
abbrev pub left_of : ℕ → List ℕ → List ℕ
left_of zero bytes = bytes
left_of (suc n) bytes = left_of n (drop (number_read 2 0 bytes) bytes)

-- Fields of these codes and sizes have items as wide as the slots say.
abbrev pub widths_fit : List (ℕ × ℕ) → List Slot → Bool
widths_fit (f ∷ fields) (s ∷ slots) = (item_width f.0 f.1 == s.width) && widths_fit fields slots
widths_fit _ _ = true

-- the size of an entry has a byte
abbrev pub is_small : List ℕ → Bool
is_small entry = nat_lt (entry_size entry) 256
