-- What a reporter hears, and the text of it. Events are listed with the latest first.
use Rattle.std.specs.Prelude.{◌≡◌, ℕ, ◌≤◌, List, [], ◌∷◌, ◌++◌, Some, length, map, reverse, take}
use Rattle.std.specs.Option.{option_map_or}
use Rattle.fit_frame.specs.declared.reason.Reason.{Reason}
use Rattle.fit_record.specs.declared.message.Record.{Record}
use Rattle.fit_record.specs.Files.{chain_limit, IsViable}
use Rattle.fit_chain.specs.declared.event.Event.{Event as Answer}
use Rattle.fit_decode.specs.Answers.{Seen, event_of}
use Rattle.fit_chain.specs.Events.{Event, header, item, file_end, AreEvents}

-- what is heard after an answer of a decoder
abbrev pub hear : {A : Type 0} → Answer A → List (Event A) → List (Event A)
hear answer heard = option_map_or (λ x. x ∷ heard) (event_of answer) heard

-- what is heard after records
abbrev pub hear_records : {A : Type 0} → List (Record A) → List (Event A) → List (Event A)
hear_records records heard = reverse (map item records) ++ heard

-- Some bytes with which a chain of files begins have these events.
abbrev pub AreHeard : {A : Type 0} → List (Event A) → Type 0
AreHeard {A} heard = (bytes : List ℕ) × IsViable A chain_limit bytes × AreEvents bytes (reverse heard)

-- the records of the file that was begun last, the latest first
abbrev pub latest_records : {A : Type 0} → List (Event A) → List (Record A)
latest_records [] = []
latest_records (header h n ∷ heard) = []
latest_records (item r ∷ heard) = r ∷ latest_records heard
latest_records (file_end ∷ heard) = latest_records heard

-- ---- text

-- the text of an event, after the events before it
abbrev pub Lines : Type 0 → Type 0
Lines A = List (Event A) → Event A → List ℕ

-- the text of what a decoder answers
abbrev pub line_of : {A : Type 0} → Lines A → List (Event A) → Answer A → List ℕ
line_of line heard answer = option_map_or (line heard) (event_of answer) []

-- the text of the events, each after that of the events before it
abbrev pub text_of : {A : Type 0} → Lines A → List (Event A) → List ℕ
text_of line [] = []
text_of line (x ∷ heard) = text_of line heard ++ line heard x

-- ---- skipping

-- The first bytes of a piece, that many, are fed, and what was heard is now the events of all bytes fed. The text of the new ones
-- stands after the old text. After a refusal nothing is skipped, and nothing changes.
pub record Skips {A R : Type 0} (has_heard : R → List (Event A) → Type 0) (line : Lines A) (old new : Seen) (piece : List ℕ) (before after : R)
    (old_text new_text : List ℕ) (used : ℕ) : Type 0 where
  pub within : used ≤ length piece
  pub is_fed : new ≡ record old { bytes = old.bytes ++ take used piece }
  pub refused : (reason : Reason) → old.refusal ≡ Some reason → (used ≡ 0) × (new ≡ old) × (after ≡ before) × (new_text ≡ old_text)
  pub told : (heard : List (Event A)) → has_heard before heard → AreEvents old.bytes (reverse heard)
      → (now : List (Event A)) × has_heard after now × AreEvents new.bytes (reverse now)
      × (put : List ℕ) × (new_text ≡ old_text ++ put) × (text_of line now ≡ text_of line heard ++ put)

-- ---- for a list of answers. No public contract names this.

-- what is heard by the answers, the latest first
abbrev pub heard_of : {A : Type 0} → List (Answer A) → List (Event A)
heard_of [] = []
heard_of (x ∷ answers) = hear x (heard_of answers)
