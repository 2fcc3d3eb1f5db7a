-- What holds of blocks.
use Rattle.std.specs.Prelude.{◌≡◌, ℕ, ◌%◌, ◌≤◌, List, ◌∷◌, ◌++◌, drop, length, reverse, take}
use Rattle.fit_record.specs.declared.environment.Defined.{Defined}
use Rattle.fit_record.specs.declared.message.Values.{Values}
use Rattle.fit_record.specs.Records.{DataFits}
use Rattle.fit_record.specs.Sound.{IsSound}
use Rattle.fit_chain.specs.Events.{Event, AreEvents}
use Rattle.fit_profile.specs.declared.told.Told.{Told}
use Rattle.fit_messages.specs.Blocks.{bytes_heard, event_block, low, message_block, message_length}

-- The length of each block is a multiple of 8.
abbrev pub BlocksAreWhole : Type 0 → Type 0
BlocksAreWhole A = (heard : List (Event A)) (x : Event A) → length (event_block heard x) % 8 ≡ 0

-- The blocks of all messages of a definition have the length that its own block says.
abbrev pub MessagesHaveOneLength : Type 0 → Type 0
MessagesHaveOneLength A = (file place number : ℕ) (v : Values A) (p : Defined A) (t : Told) → IsSound p → DataFits v p
    → length (message_block file place number v p.definition t) ≡ message_length p.definition

-- The first bytes, as many as the place says, have just these events, and no fewer have them.
abbrev pub EndAt : {A : Type 0} → List (Event A) → List ℕ → ℕ → Type 0
EndAt events bytes place = (place ≤ length bytes) × AreEvents (take place bytes) events × ((k : ℕ) → AreEvents (take k bytes) events → place ≤ k)

-- An event stands at the place that its block has at 16: where bytes have some events, then x, and then others, those before x end there,
-- and x ends at the next place.
abbrev pub BlocksHaveTheirPlaces : Type 0 → Type 0
BlocksHaveTheirPlaces A = (heard later : List (Event A)) (x : Event A) (bytes : List ℕ) → AreEvents bytes (reverse heard ++ x ∷ later)
    → EndAt (reverse heard) bytes (bytes_heard heard) × EndAt (reverse (x ∷ heard)) bytes (bytes_heard (x ∷ heard))
    × (take 8 (drop 16 (event_block heard x)) ≡ low 8 (bytes_heard heard))
