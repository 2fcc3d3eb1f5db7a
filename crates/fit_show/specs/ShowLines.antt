-- The lines of `show`: what a person is told of the events of a chain of files.
use Rattle.std.specs.Prelude.{ℕ, ◌+◌, ◌==◌, ◌||◌, if◌then◌else◌, List, [], ◌∷◌, ◌++◌, length, map, flat_map, zip, option_map, unwrap_or, Option, Some, None}
use Rattle.std.specs.Prelude.{codes, decimal}
use Rattle.fit_base.specs.declared.items.Items.{Items}
use Rattle.fit_frame.specs.declared.header.Header.{Header}
use Rattle.fit_record.specs.declared.definition.FieldDef.{FieldDef}
use Rattle.fit_record.specs.declared.definition.DevDef.{DevDef}
use Rattle.fit_record.specs.declared.definition.MessageDef.{MessageDef}
use Rattle.fit_record.specs.declared.environment.Defined.{Defined}
use Rattle.fit_record.specs.declared.message.Values.{Values}
use Rattle.fit_record.specs.declared.message.Record.{Record}
use Rattle.fit_record.specs.declared.message.Record.TheVariants.{Define, Values as Data}
use Rattle.fit_record.specs.declared.file.FitFile.{FitFile}
use Rattle.fit_record.specs.Environment.{defined_at, dev_defs}
use Rattle.fit_record.specs.Files.{body}
use Rattle.fit_chain.specs.Events.{header, item, file_end}
use Rattle.fit_profile.specs.Names.{message_label, field_label}
use Rattle.fit_profile.specs.Names as names
use Rattle.fit_profile.specs.Looks.{known}
use Rattle.fit_profile.specs.Times.{time}
use Rattle.fit_profile.specs.Described.{Naming, namings_at}
use Rattle.fit_report.specs.Heard.{Lines, latest_records}
use Rattle.fit_cells.specs.Cells.{cell}
use Rattle.fit_texts.specs.Words.{sum_word, order_word, unit_text, dev_label}
use Rattle.fit_text_report.specs.KeptEvents.{files_heard}
use Rattle.fit_texts.specs.InstantText.{instant_text}
use Rattle.fit_shown.specs.Shown.{shown_cell}

-- words one after another
abbrev pub joined : List (List ℕ) → List ℕ
joined words = flat_map (λ w. w) words

-- ---- headers and definitions

abbrev pub versions_text : Header → List ℕ
versions_text h = joined (codes "header " ∷ decimal h.size ∷ codes ", protocol " ∷ decimal h.protocol ∷ codes ", profile " ∷ decimal h.profile ∷ [])

-- the header of file k of the input, with n bytes of data
abbrev pub header_line : ℕ → Header → ℕ → List ℕ
header_line k h n =
    joined (codes "file " ∷ decimal k ∷ codes ": " ∷ []) ++ versions_text h
    ++ joined (codes ", data " ∷ decimal n ∷ codes ", " ∷ sum_word h.sum ∷ codes "\n" ∷ [])

-- local message type, message, byte order, how many fields and developer fields there are
abbrev pub definition_line : {A : Type 0} → MessageDef A → List ℕ
definition_line d = joined (
    codes "  define " ∷ decimal d.local ∷ codes " " ∷ message_label d.global ∷ codes " " ∷ order_word d.order ∷ codes " " ∷ decimal (length d.fields)
    ∷ codes " " ∷ decimal (length (dev_defs d.dev)) ∷ codes "\n" ∷ []
    )

-- ---- fields

-- a unit after a cell, where neither is empty
abbrev pub unit_part : List ℕ → List ℕ → List ℕ
unit_part cell unit = if (length cell == 0) || (length unit == 0) then [] else joined (codes " " ∷ unit ∷ [])

-- name, cell and unit
abbrev pub shown_part : List ℕ → List ℕ → List ℕ → List ℕ
shown_part name cell unit = joined (name ∷ codes "=" ∷ cell ∷ unit_part cell unit ∷ [])

abbrev pub shown_field : {A : Type 0} → ℕ → FieldDef → Items A → List ℕ
shown_field global f i = shown_part (field_label global f.number) (shown_cell f.code (names.field global f.number) i) (unit_text (names.field global f.number))

-- the fields of a message, each with its items
abbrev pub shown_fields : {A : Type 0} → ℕ → List FieldDef → List (Items A) → List (List ℕ)
shown_fields global fields items = map (λ x. shown_field global x.0 x.1) (zip fields items)

abbrev pub shown_dev : {A : Type 0} → DevDef → ℕ → Naming → Items A → List ℕ
shown_dev f code n i = shown_part (dev_label f n) (shown_cell code None i) (unwrap_or n.unit [])

-- the developer fields of a message, each with its code, its naming and its items
abbrev pub shown_devs : {A : Type 0} → List DevDef → List ℕ → List Naming → List (Items A) → List (List ℕ)
shown_devs fields dev_codes namings items = map (λ x. shown_dev x.0.0 x.0.1 x.1.0 x.1.1) (zip (zip fields dev_codes) (zip namings items))

-- what stands before a field after that many others
abbrev pub separator : ℕ → List ℕ
separator n = if n == 0 then codes ": " else codes ", "

-- fields after that many others
abbrev pub listed : ℕ → List (List ℕ) → List ℕ
listed n [] = []
listed n (text ∷ texts) = separator n ++ text ++ listed (n + 1) texts

-- ---- messages

abbrev pub time_part : Option ℕ → List ℕ
time_part None = []
time_part (Some t) = joined (codes " " ∷ instant_text t ∷ [])

-- local message type, message, and its time, where it has one
abbrev pub message_front : ℕ → ℕ → Option ℕ → List ℕ
message_front local global at = joined (codes "  " ∷ decimal local ∷ codes " " ∷ message_label global ∷ time_part at ∷ [])

-- a data message under its definition, by its time and the namings of its developer fields
abbrev pub message_line : {A : Type 0} → Values A → Defined A → Option ℕ → List Naming → List ℕ
message_line v p at namings =
    message_front v.local p.definition.global at
    ++ listed 0 (shown_fields p.definition.global p.definition.fields v.fields ++ shown_devs (dev_defs p.definition.dev) p.dev_codes namings v.dev)
    ++ codes "\n"

-- A record after the records before it in its file, latest first.
abbrev pub record_line : {A : Type 0} → List (Record A) → Record A → List ℕ
record_line before (Define d) = definition_line d
record_line before (Data v) =
    unwrap_or (option_map (λ p. message_line v p (time before (Data v)) (namings_at before v.local)) (defined_at (known before) v.local)) []

-- ---- files and chains

-- records one after another
unfoldable pub record_lines : {A : Type 0} → List (Record A) → List (Record A) → List ℕ
record_lines before [] = []
record_lines before (r ∷ records) = record_line before r ++ record_lines (r ∷ before) records

-- files one after another, the first of which is file k of the input
unfoldable pub show_files : {A : Type 0} → ℕ → List (FitFile A) → List ℕ
show_files k [] = []
show_files k (f ∷ files) = header_line k f.header (length (body f)) ++ record_lines [] f.records ++ show_files (k + 1) files

-- The lines of a chain. That these are what `show` writes of the chain's events is the law `chains_have_show_lines`.
abbrev pub show_lines : {A : Type 0} → List (FitFile A) → List ℕ
show_lines files = show_files 1 files

-- ---- events, the latest first

-- What `show` writes of an event after those before it.
abbrev pub show_line : {A : Type 0} → Lines A
show_line heard (header h n) = header_line (files_heard heard + 1) h n
show_line heard (item r) = record_line (latest_records heard) r
show_line heard file_end = []
