-- The rows of events, one after another, and those of whole files.
use Rattle.fit_rows.proofs.Common.{◌≡◌, ◌∙◌, [], ◌∷◌, ◌++◌, map, refl, sym, ap, append_assoc, flat_map, FitFile, Record, Event, item, file_end, file_events}
use Rattle.fit_rows.proofs.Common.{first_line, chain_rows, end_row, event_rows, events_rows, file_row, file_rows, record_rows, next_records, records_rows, Row}
use Rattle.fit_rows.proofs.Common.{rows_of}
use Rattle.std.proofs.Common.{List}
use Rattle.std.proofs.lemmas.List.{append-nil}
use Rattle.fit_text_report.proofs.HeardEvents.{records_after}

-- ---- the records of a file

data_events : {A : Type 0} (before records : List (Record A)) (rest : List (Event A)) (rows : List Row)
    → ((beyond : List (Record A)) → events_rows beyond rest ≡ rows)
    → events_rows before (map item records ++ (file_end ∷ rest)) ≡ records_rows before records ++ (end_row ∷ rows)
unfolding events_rows records_rows
data_events before [] rest rows others = ap (λ more. end_row ∷ more) (others before)
data_events before (r ∷ records) rest rows others =
    ap (λ more. record_rows before r ++ more) (data_events (r ∷ before) records rest rows others)
    ∙ sym (append_assoc (record_rows before r) (records_rows (r ∷ before) records) (end_row ∷ rows))

-- a file's events, and then others
one_file : {A : Type 0} (before : List (Record A)) (f : FitFile A) (rest : List (Event A)) (rows : List Row)
    → ((beyond : List (Record A)) → events_rows beyond rest ≡ rows)
    → events_rows before (file_events f ++ rest) ≡ file_rows f ++ rows
unfolding events_rows
one_file before f rest rows others =
    ap (λ events. file_row f.header ∷ events_rows [] events) (append_assoc (map item f.records) (file_end ∷ []) rest)
    ∙ ap (λ more. file_row f.header ∷ more) (data_events [] f.records rest rows others)
    ∙ ap (λ more. file_row f.header ∷ more) (sym (append_assoc (records_rows [] f.records) (end_row ∷ []) rows))

all_files : {A : Type 0} (files : List (FitFile A)) (before : List (Record A)) → events_rows before (flat_map file_events files) ≡ flat_map file_rows files
unfolding events_rows
all_files [] before = refl
all_files (f ∷ files) before = one_file before f (flat_map file_events files) (flat_map file_rows files) (all_files files)

-- the rows of the events of whole files are the rows of the files
pub rows-of-chain : {A : Type 0} (files : List (FitFile A)) → rows_of (flat_map file_events files) ≡ chain_rows files
rows-of-chain files = ap (λ rows. first_line ∷ rows) (all_files files [])

-- ---- one more event

-- one more event has its rows after those of the others
pub rows-more : {A : Type 0} (before : List (Record A)) (events : List (Event A)) (x : Event A)
    → events_rows before (events ++ (x ∷ [])) ≡ events_rows before events ++ event_rows (records_after before events) x
unfolding events_rows
rows-more before [] x = append-nil (event_rows before x)
rows-more before (y ∷ events) x =
    ap (λ rows. event_rows before y ++ rows) (rows-more (next_records before y) events x)
    ∙ sym (append_assoc (event_rows before y) (events_rows (next_records before y) events) (event_rows (records_after (next_records before y) events) x))
