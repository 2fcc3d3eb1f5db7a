-- What a report keeps of the events of a chain that it has heard: what it tells of the next event depends on nothing else of them.
use Rattle.std.specs.Prelude.{ℕ, ◌+◌, List, [], ◌∷◌}
use Rattle.fit_record.specs.declared.message.Record.{Record}
use Rattle.fit_chain.specs.Events.{Event, header, item, file_end}
use Rattle.std.specs.Global.{Global}
use Rattle.fit_report.specs.Heard.{latest_records}

-- the records of the file that was begun last, after an event
abbrev pub next_records : {A : Type 0} → List (Record A) → Event A → List (Record A)
next_records before (header h n) = []
next_records before (item r) = r ∷ before
next_records before file_end = before

-- how many files have begun after an event
abbrev pub next_files : {A : Type 0} → ℕ → Event A → ℕ
next_files files (header h n) = files + 1
next_files files other = files

-- the same of events, the latest first
abbrev pub files_heard : {A : Type 0} → List (Event A) → ℕ
files_heard [] = 0
files_heard (x ∷ heard) = next_files (files_heard heard) x

-- the records of the file that was begun last, the latest first, and how many files have begun
pub record KeptEvents : Type 0 where
  pub records : List (Record Global)
  pub files : ℕ

-- of these events, the latest first
abbrev pub kept_events : List (Event Global) → KeptEvents
kept_events heard = record { records = latest_records heard; files = files_heard heard }
