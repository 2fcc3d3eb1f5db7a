-- What holds of the events that a reporter hears.
use Rattle.std.specs.Prelude.{◌<◌, List, ◌∷◌, length, reverse}
use Rattle.fit_record.specs.declared.message.Record.{Record}
use Rattle.fit_record.specs.Environment.{empty_environment, learn_all}
use Rattle.fit_record.specs.Records.{Fits}
use Rattle.fit_chain.specs.Events.{Event, item}
use Rattle.fit_report.specs.Heard.{AreHeard, latest_records}

-- A record can stand after the records of its file.
abbrev pub HeardRecordsFit : Type 0 → Type 0
HeardRecordsFit A = (heard : List (Event A)) (r : Record A) → AreHeard (item r ∷ heard) → Fits (learn_all empty_environment (reverse (latest_records heard))) r

-- There are fewer than 2^57.
abbrev pub HeardAreFew : Type 0 → Type 0
HeardAreFew A = (heard : List (Event A)) → AreHeard heard → length heard < 144115188075855872
