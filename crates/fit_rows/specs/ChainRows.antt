-- The rows of a chain of files, and of the events of a reader.
use Rattle.std.specs.Prelude.{ℕ, List, [], ◌∷◌, ◌++◌, length, map, flat_map, zip, option_map, unwrap_or, Option, None, codes, decimal}
use Rattle.fit_base.specs.declared.items.Items.{Items}
use Rattle.fit_frame.specs.declared.header.Header.{Header}
use Rattle.fit_record.specs.declared.definition.FieldDef.{FieldDef}
use Rattle.fit_record.specs.declared.definition.DevDef.{DevDef}
use Rattle.fit_record.specs.declared.definition.MessageDef.{MessageDef}
use Rattle.fit_record.specs.declared.environment.Defined.{Defined}
use Rattle.fit_record.specs.declared.message.Values.{Values}
use Rattle.fit_record.specs.declared.message.Record.{Record}
use Rattle.fit_record.specs.declared.message.Record.TheVariants.{Define, Values as Data}
use Rattle.fit_record.specs.declared.file.FitFile.{FitFile}
use Rattle.fit_record.specs.Environment.{defined_at, dev_defs}
use Rattle.fit_chain.specs.Events.{Event, header, item, file_end}
use Rattle.fit_profile.specs.Names.{message_label, field_label}
use Rattle.fit_profile.specs.Names as names
use Rattle.fit_profile.specs.Looks.{known}
use Rattle.fit_profile.specs.Times.{header_time, previous_time}
use Rattle.fit_profile.specs.Described.{Naming, namings_at}
use Rattle.fit_cells.specs.Cells.{cell}
use Rattle.fit_cells.specs.Rows.{Cell, Row, first_line}
use Rattle.fit_texts.specs.InstantText.{instant_text}
use Rattle.fit_texts.specs.Words.{optional_number, sum_word, rest_text, order_word, unit_text, dev_label}
use Rattle.fit_text_report.specs.KeptEvents.{next_records}

-- A row has seven cells, the first of which says its kind.
abbrev pub row : Cell → Cell → Cell → Cell → Cell → Cell → Cell → Row
row kind a b c d e f = kind ∷ a ∷ b ∷ c ∷ d ∷ e ∷ f ∷ []

-- ---- headers

-- size, protocol version, profile version, the word of the sum, the rest
abbrev pub file_row : Header → Row
file_row h = row (codes "file") (decimal h.size) (decimal h.protocol) (decimal h.profile) (sum_word h.sum) (rest_text h.rest.items) []

abbrev pub end_row : Row
end_row = row (codes "end") [] [] [] [] [] []

-- ---- definitions

-- number, size, base type code
abbrev pub field_def_row : FieldDef → Row
field_def_row f = row (codes "fdef") (decimal f.number) (decimal f.size) (decimal f.code) [] [] []

-- number, size, developer data index
abbrev pub dev_def_row : DevDef → Row
dev_def_row f = row (codes "ddef") (decimal f.number) (decimal f.size) (decimal f.index) [] [] []

-- how many developer fields there are, or empty where the definition has no such part
abbrev pub dev_count : Option (List DevDef) → Cell
dev_count dev = optional_number (option_map (λ fields. length fields) dev)

-- local message type, reserved byte, byte order, global message number, how many fields and developer fields there are
abbrev pub def_row : {A : Type 0} → MessageDef A → Row
def_row d = row (codes "def") (decimal d.local) (decimal d.reserved) (order_word d.order) (decimal d.global) (decimal (length d.fields)) (dev_count d.dev)

-- a definition, its fields, and its developer fields
abbrev pub definition_rows : {A : Type 0} → MessageDef A → List Row
definition_rows d = def_row d ∷ map field_def_row d.fields ++ map dev_def_row (dev_defs d.dev)

-- ---- data messages

-- local message type, time offset, message, time of the header; the offset and the time are empty where there is none
abbrev pub data_row : {A : Type 0} → Values A → ℕ → Option ℕ → Row
data_row v global time = row (codes "data") (decimal v.local) (optional_number v.offset) (message_label global) (unwrap_or (option_map instant_text time) []) []
    []

-- label, items, unit
abbrev pub field_row : {A : Type 0} → ℕ → FieldDef → Items A → Row
field_row global f i = row (codes "field") (field_label global f.number) (cell f.code (names.field global f.number) i) (unit_text (names.field global f.number))
    [] [] []

-- the fields of a message, each with its items
abbrev pub field_rows : {A : Type 0} → ℕ → List FieldDef → List (Items A) → List Row
field_rows global fields items = map (λ x. field_row global x.0 x.1) (zip fields items)

-- label, items by the described code, unit
abbrev pub dev_row : {A : Type 0} → DevDef → ℕ → Naming → Items A → Row
dev_row f code n i = row (codes "dev") (dev_label f n) (cell code None i) (unwrap_or n.unit []) [] [] []

-- the developer fields of a message, each with its code, its naming and its items
abbrev pub dev_rows : {A : Type 0} → List DevDef → List ℕ → List Naming → List (Items A) → List Row
dev_rows fields dev_codes namings items = map (λ x. dev_row x.0.0 x.0.1 x.1.0 x.1.1) (zip (zip fields dev_codes) (zip namings items))

-- a data message under its definition, by the time of its header and the namings of its developer fields
abbrev pub message_rows : {A : Type 0} → Values A → Defined A → Option ℕ → List Naming → List Row
message_rows v p time namings =
    data_row v p.definition.global time
    ∷ field_rows p.definition.global p.definition.fields v.fields ++ dev_rows (dev_defs p.definition.dev) p.dev_codes namings v.dev

-- A data message after the records before it in its file, latest first.
abbrev pub data_rows : {A : Type 0} → List (Record A) → Values A → List Row
data_rows before v =
    unwrap_or (option_map (λ p. message_rows v p (header_time (previous_time before) v.offset) (namings_at before v.local)) (defined_at (known before) v.local))
    []

-- ---- records, files and chains

-- A record after the records before it in its file, latest first.
abbrev pub record_rows : {A : Type 0} → List (Record A) → Record A → List Row
record_rows before (Define d) = definition_rows d
record_rows before (Data v) = data_rows before v

-- records one after another
unfoldable pub records_rows : {A : Type 0} → List (Record A) → List (Record A) → List Row
records_rows before [] = []
records_rows before (r ∷ records) = record_rows before r ++ records_rows (r ∷ before) records

-- a file: its header, its records, and its end
abbrev pub file_rows : {A : Type 0} → FitFile A → List Row
file_rows f = file_row f.header ∷ records_rows [] f.records ++ end_row ∷ []

-- the first line, and the files one after another
abbrev pub chain_rows : {A : Type 0} → List (FitFile A) → List Row
chain_rows files = first_line ∷ flat_map file_rows files

-- ---- events

-- an event after the records before it in its file
abbrev pub event_rows : {A : Type 0} → List (Record A) → Event A → List Row
event_rows before (header h n) = file_row h ∷ []
event_rows before (item r) = record_rows before r
event_rows before file_end = end_row ∷ []

-- events one after another
unfoldable pub events_rows : {A : Type 0} → List (Record A) → List (Event A) → List Row
events_rows before [] = []
events_rows before (x ∷ events) = event_rows before x ++ events_rows (next_records before x) events

-- the first line, and all that a reader has told
abbrev pub rows_of : {A : Type 0} → List (Event A) → List Row
rows_of events = first_line ∷ events_rows [] events
