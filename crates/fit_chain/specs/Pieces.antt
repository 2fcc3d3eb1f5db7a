-- What the first bytes of a piece tell, after bytes that have come.
use Rattle.std.specs.Prelude.{◌≡◌, ℕ, ◌<◌, ◌≤◌, List, [], ◌∷◌, ◌++◌, take, length, map}
use Rattle.fit_record.specs.declared.message.Record.{Record}
use Rattle.fit_chain.specs.Events.{Event, item, AreEvents}

-- The bytes have events, of which there is one list (law `events_are_one`), and each front of the piece of at most k bytes leaves
-- them as they are.
abbrev pub Quiet : Type 0 → List ℕ → List ℕ → ℕ → Type 0
Quiet A bytes piece k = (events : List (Event A)) × AreEvents bytes events × ((j : ℕ) → j ≤ k → AreEvents (bytes ++ take j piece) events)

-- The bytes have events, to which the first k bytes of the piece add this one, and no fewer do.
abbrev pub Least : (A : Type 0) → List ℕ → List ℕ → ℕ → Event A → Type 0
Least A bytes piece k x = (events : List (Event A)) × AreEvents bytes events
    × AreEvents (bytes ++ take k piece) (events ++ x ∷ []) × ((j : ℕ) → j < k → AreEvents (bytes ++ take j piece) events)

-- The bytes have these events, and after them those of that many records, and no other.
abbrev pub TellsRecords : {A : Type 0} → List ℕ → List (Event A) → ℕ → Type 0
TellsRecords {A} bytes events count =
    (records : List (Record A)) × (length records ≡ count) × AreEvents bytes (events ++ map item records)
