-- The table of record messages, global message number 20.
use Rattle.std.specs.Prelude.{ℕ, ◌+◌, ◌==◌, if◌then◌else◌, List, [], ◌∷◌, ◌++◌, map, option_and_then, option_map, unwrap_or, Option, None, codes, decimal, ℤ}
use Rattle.std.specs.Prelude.{pos}
use Rattle.fit_record.specs.declared.definition.MessageDef.{MessageDef}
use Rattle.fit_record.specs.declared.message.Values.{Values}
use Rattle.fit_record.specs.declared.message.Record.{Record}
use Rattle.fit_record.specs.declared.message.Record.TheVariants.{Define, Values as Data}
use Rattle.fit_record.specs.declared.file.FitFile.{FitFile}
use Rattle.fit_record.specs.Environment.{defined_at}
use Rattle.fit_record.specs.Faults.{or_else}
use Rattle.fit_chain.specs.Events.{Event, header, item, file_end}
use Rattle.fit_profile.specs.declared.told.Told.{Told}
use Rattle.fit_numbers.specs.FixedText.{fixed_text}
use Rattle.fit_profile.specs.KnownNumber.{known_number}
use Rattle.fit_profile.specs.Looks.{known, first_field}
use Rattle.fit_numbers.specs.Scaled.{decimals}
use Rattle.fit_profile.specs.Told.{told}
use Rattle.fit_profile.specs.Values.{first_number}
use Rattle.fit_cells.specs.Cells.{scaled_value}
use Rattle.fit_table.specs.Degrees.{degrees_of}
use Rattle.fit_texts.specs.InstantText.{instant_text}
use Rattle.fit_cells.specs.Rows.{Cell, Row}
use Rattle.fit_text_report.specs.KeptEvents.{next_files, next_records}

abbrev pub table_line : Row
table_line =
    codes "file" ∷ codes "timestamp" ∷ codes "position_lat" ∷ codes "position_long" ∷ codes "altitude" ∷ codes "distance" ∷ codes "speed"
    ∷ codes "heart_rate" ∷ codes "cadence" ∷ codes "power" ∷ codes "temperature" ∷ []

-- a raw value over the scale, less the offset
abbrev pub amount_text : ℤ → ℕ → ℕ → Cell
amount_text raw scale offset = fixed_text (scaled_value raw scale offset) (decimals scale)

-- the number of the first field of this number, in its unit
abbrev pub value_text : {A : Type 0} → MessageDef A → Values A → ℕ → Option Cell
value_text d v number = option_map (λ x. amount_text x.0 x.1.scale x.1.offset) (known_number d v number)

-- the first item of the first field of this number, where it is a valid sint32 of semicircles, in degrees
abbrev pub degrees_text : {A : Type 0} → MessageDef A → Values A → ℕ → Option Cell
degrees_text d v number =
    option_and_then (λ f. if f.0.code == 0x85 then option_map (λ s. fixed_text (degrees_of s) 7) (first_number f.0 f.1) else None)
    (first_field d.fields v.fields number)

-- The cells of a record message, where it has them: what stands in the message itself comes before what is accumulated from field 8.
abbrev pub number_cells : {A : Type 0} → MessageDef A → Values A → Told → List (Option Cell)
number_cells d v t =
    degrees_text d v 0 ∷ degrees_text d v 1
    ∷ or_else (value_text d v 78) (value_text d v 2)
    ∷ or_else (value_text d v 5) (option_map (λ n. amount_text (pos n) 16 0) t.distance)
    ∷ or_else (value_text d v 73) (or_else (value_text d v 6) (option_map (λ n. amount_text (pos n) 100 0) t.speed))
    ∷ value_text d v 3 ∷ value_text d v 4 ∷ value_text d v 7 ∷ value_text d v 13 ∷ []

-- the row of a record message of the file of this number: the file, the time and these cells
abbrev pub table_row : {A : Type 0} → ℕ → MessageDef A → Values A → Told → Row
table_row file d v t = decimal file ∷ map (λ cell. unwrap_or cell []) (option_map instant_text t.time ∷ number_cells d v t)

-- a message of the file of this number, after the records before it in the file, latest first: one row where it is a record message
abbrev pub table_message_rows : {A : Type 0} → ℕ → List (Record A) → Values A → List Row
table_message_rows file before v =
    unwrap_or (option_map (λ p. if p.definition.global == 20 then table_row file p.definition v (told before v) ∷ [] else [])
    (defined_at (known before) v.local)) []

abbrev pub table_record_rows : {A : Type 0} → ℕ → List (Record A) → Record A → List Row
table_record_rows file before (Define d) = []
table_record_rows file before (Data v) = table_message_rows file before v

-- ---- files and chains

-- records one after another, of the file of this number
unfoldable pub table_records_rows : {A : Type 0} → ℕ → List (Record A) → List (Record A) → List Row
table_records_rows file before [] = []
table_records_rows file before (r ∷ records) = table_record_rows file before r ++ table_records_rows file (r ∷ before) records

-- files one after another, the first of which has this number
unfoldable pub table_files_rows : {A : Type 0} → ℕ → List (FitFile A) → List Row
table_files_rows file [] = []
table_files_rows file (f ∷ files) = table_records_rows file [] f.records ++ table_files_rows (file + 1) files

-- the table of a chain: the first line, and the rows of each file. That it is what `table` writes of the chain is the law
-- `chains_have_tables`.
abbrev pub table_rows : {A : Type 0} → List (FitFile A) → List Row
table_rows files = table_line ∷ table_files_rows 1 files

-- ---- events

abbrev pub table_event_rows : {A : Type 0} → ℕ → List (Record A) → Event A → List Row
table_event_rows file before (header h n) = []
table_event_rows file before (item r) = table_record_rows file before r
table_event_rows file before file_end = []

-- events one after another, after that many headers
unfoldable pub table_events_rows : {A : Type 0} → ℕ → List (Record A) → List (Event A) → List Row
table_events_rows files before [] = []
table_events_rows files before (x ∷ events) = table_event_rows files before x ++ table_events_rows (next_files files x) (next_records before x) events

-- the first line, and a row for each record message that a reader has told
abbrev pub table_of : {A : Type 0} → List (Event A) → List Row
table_of events = table_line ∷ table_events_rows 0 [] events
