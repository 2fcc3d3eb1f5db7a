-- Which rooms records can fill, as tests that compute. The room is the number of bytes of the data section that are to come.
use Rattle.std.specs.Prelude.{ℕ, zero, suc, ◌+◌, ◌==◌, ◌&&◌, ◌||◌, nat_le, Bool, true, false, List, slice_set, Option, None}
use Rattle.std.specs.Option.{option_map_or}
use Rattle.std.specs.List.{list_any}
use Rattle.fit_record.specs.declared.environment.Defined.{Defined}
use Rattle.fit_record.specs.Environment.{Environment}
use Rattle.fit_record.specs.Records.{message_size}

-- The room is a sum of lengths that pass the test, or has six bytes or more: a definition message without fields has six
-- bytes, and its data messages have one.
abbrev pub fills : (ℕ → Bool) → ℕ → Bool
fills has zero = true
fills has (suc zero) = has 1
fills has (suc (suc zero)) = has 1 || has 2
fills has (suc (suc (suc zero))) = has 1 || has 3
fills has (suc (suc (suc (suc zero)))) = has 1 || (has 2 || has 4)
fills has (suc (suc (suc (suc (suc zero))))) = has 1 || (has 5 || (has 2 && has 3))
fills has _ = true

-- the data messages of a place have this length, record header included
abbrev pub has_length_at : {A : Type 0} → Option (Defined A) → ℕ → Bool
has_length_at place n = option_map_or (λ p. 1 + message_size p == n) place false

-- some defined data messages have this length
abbrev pub has_length : {A : Type 0} → List (Option (Defined A)) → ℕ → Bool
has_length places n = list_any (λ place. has_length_at place n) places

-- records can fill the room
abbrev pub can_fill : {A : Type 0} → Environment A → ℕ → Bool
can_fill e room = fills (has_length e.places) room

-- ---- after an unfinished definition message

-- data messages of another local message type have this length
abbrev pub others_have : {A : Type 0} → Environment A → ℕ → ℕ → Bool
others_have e local n = has_length (slice_set e.places local None) n

-- Records can fill the room once data messages of this local message type have this many bytes after the record header.
abbrev pub can_fill_with : {A : Type 0} → Environment A → ℕ → ℕ → ℕ → Bool
can_fill_with e local size room = fills (λ n. others_have e local n || (1 + size == n)) room

-- Records can fill the room once they have this many bytes or more, as suits the room.
abbrev pub can_fill_from : {A : Type 0} → Environment A → ℕ → ℕ → ℕ → Bool
can_fill_from e local least room = nat_le (1 + least) room || fills (others_have e local) room
