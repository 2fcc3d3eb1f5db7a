-- What the skipping of records does. No public contract names it.
use Rattle.std.specs.Prelude.{ℕ, ◌≤◌, List, ◌++◌, take, length, map}
use Rattle.fit_record.specs.declared.message.Record.{Record}
use Rattle.fit_record.specs.Files.{chain_limit, IsViable}
use Rattle.fit_record.specs.Records.{AreRecords}
use Rattle.fit_chain.specs.Events.{Event, item, AreEvents, known_after}
use Rattle.fit_decode.specs.inner.Kept.{Fields, Holds}

-- The bytes used are those of the records and tell them and nothing else, and the fields are those after them.
pub record Skipped {A : Type 0} (d : Fields A) (bytes piece : List ℕ) (used : ℕ) (records : List (Record A)) : Type 0 where
  pub within : used ≤ length piece
  pub told : (events : List (Event A)) → AreEvents bytes events
      → AreRecords (known_after events) records (take used piece) × AreEvents (bytes ++ take used piece) (events ++ map item records)
  pub viable : IsViable A chain_limit (bytes ++ take used piece)
  pub holds : Holds d (bytes ++ take used piece)

-- The bytes used tell these records and nothing else, and the fields are those after them: some bytes of a next record may have come.
pub record Passed {A : Type 0} (d : Fields A) (bytes piece : List ℕ) (used : ℕ) (records : List (Record A)) : Type 0 where
  pub told : (events : List (Event A)) → AreEvents bytes events → AreEvents (bytes ++ take used piece) (events ++ map item records)
  pub viable : IsViable A chain_limit (bytes ++ take used piece)
  pub holds : Holds d (bytes ++ take used piece)
