-- What the taking in of messages ahead does. No public contract names it.
use Rattle.std.specs.Prelude.{◌≡◌, ℕ, List, ◌++◌, reverse}
use Rattle.fit_record.specs.declared.message.Record.{Record}
use Rattle.fit_chain.specs.Events.{Event, AreEvents}
use Rattle.fit_decode.specs.Answers.{Seen, MessagesFollow}
use Rattle.fit_report.specs.Heard.{Lines, hear_records, text_of}

-- The messages at the front of a piece, of that many bytes, were heard after the events of the bytes fed, and their text stands after the
-- old text. Without any, nothing has changed.
pub record TakesAhead {A R : Type 0} (has_heard : R → List (Event A) → Type 0) (line : Lines A) (seen : Seen) (piece : List ℕ) (before after : R)
    (old_text new_text : List ℕ) (used : ℕ) : Type 0 where
  pub records : List (Record A)
  pub follow : MessagesFollow A seen piece used records
  pub none : used ≡ 0 → (after ≡ before) × (new_text ≡ old_text)
  pub told : (heard : List (Event A)) → has_heard before heard → AreEvents seen.bytes (reverse heard)
      → has_heard after (hear_records records heard) × (put : List ℕ) × (new_text ≡ old_text ++ put)
      × (text_of line (hear_records records heard) ≡ text_of line heard ++ put)
