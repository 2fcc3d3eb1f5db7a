-- The events of a stream of files, and how much a reader of it has to hold.
use Rattle.std.specs.Prelude.{◌≡◌, ℕ, ◌+◌, ◌==◌, if◌then◌else◌, List, [], ◌∷◌, ◌++◌, length, map, flat_map, fold}
use Rattle.fit_frame.specs.declared.header.Header.{Header}
use Rattle.fit_record.specs.declared.file.FitFile.{FitFile}
use Rattle.fit_record.specs.declared.message.Record.{Record}
use Rattle.fit_record.specs.Environment.{Environment, empty_environment, learn, learn_all}
use Rattle.fit_record.specs.Records.{records_bytes}
use Rattle.fit_record.specs.Sizes.{environment_size}
use Rattle.fit_record.specs.Files.{body}
use Rattle.fit_step.specs.Held.{part_size}
use Rattle.fit_chain.specs.Progress.{Progress, at_header, at_data, HasCome}

-- What becomes whole: a header, with the size of the data section, a record, and a file.
pub data Event (A : Type 0) : Type 0 where
  header : Header → ℕ → Event A
  item : Record A → Event A
  file_end : Event A

abbrev pub file_events : {A : Type 0} → FitFile A → List (Event A)
file_events f = header f.header (length (body f)) ∷ map item f.records ++ file_end ∷ []

abbrev pub progress_events : {A : Type 0} → Progress A → List (Event A)
progress_events (at_header front) = []
progress_events (at_data h n records part) = header h n ∷ map item records

-- The events of the bytes, in order.
abbrev pub AreEvents : {A : Type 0} → List ℕ → List (Event A) → Type 0
AreEvents {A} bytes events =
    (fs : List (FitFile A)) × (g : Progress A) × HasCome fs g bytes
    × (events ≡ flat_map file_events fs ++ progress_events g)

-- ---- what is known

-- what is known after an event, where this was known before it
abbrev pub known_next : {A : Type 0} → Environment A → Event A → Environment A
known_next e (header h n) = empty_environment
known_next e (item r) = learn e r
known_next e file_end = e

-- what is known after events: what the records after the last header define and describe
abbrev pub known_after : {A : Type 0} → List (Event A) → Environment A
known_after events = fold known_next empty_environment events

-- ---- what is held

-- The most entries, described developer fields and items that a reader holds. After the data the bytes are those of the closing
-- sum, and no part of a record. `proofs/HeldRows` computes it for known bytes.
abbrev pub bound : {A : Type 0} → Progress A → ℕ
bound (at_header front) = 0
bound (at_data h n records part) =
    let e = learn_all empty_environment records in
    environment_size e + (if length (records_bytes empty_environment records) == n then 0 else part_size e part)
