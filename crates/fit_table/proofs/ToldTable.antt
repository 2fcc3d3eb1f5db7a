-- The rows of the table, told one after another.
use Rattle.fit_table.proofs.Common.{◌≡◌, ◌∙◌, [], ◌∷◌, ◌++◌, refl, sym, ap, ap₂, append_assoc, Global, reverse-append, Record, Event}
use Rattle.fit_table.proofs.Common.{text_of, csv_text, next_files, files_heard, next_records, table_text, table_event_rows, table_events_rows}
use Rattle.fit_table.proofs.Common.{text_append}
use Rattle.std.proofs.Common.{ℕ, List, reverse}
use Rattle.std.proofs.lemmas.List.{append-nil}
use Rattle.fit_text_report.proofs.HeardEvents.{records_after, latest}

-- how many files have begun after events one after another
abbrev files_after : {A : Type 0} → ℕ → List (Event A) → ℕ
files_after files [] = files
files_after files (x ∷ events) = files_after (next_files files x) events

-- one more event has its rows after those of the others
table-more : {A : Type 0} (files : ℕ) (before : List (Record A)) (events : List (Event A)) (x : Event A)
    → table_events_rows files before (events ++ (x ∷ []))
    ≡ table_events_rows files before events ++ table_event_rows (files_after files events) (records_after before events) x
unfolding table_events_rows
table-more files before [] x = append-nil (table_event_rows files before x)
table-more files before (y ∷ events) x =
    ap (λ rows. table_event_rows files before y ++ rows) (table-more (next_files files y) (next_records before y) events x)
    ∙ sym (append_assoc (table_event_rows files before y) (table_events_rows (next_files files y) (next_records before y) events)
    (table_event_rows (files_after (next_files files y) events) (records_after (next_records before y) events) x))

files-more : {A : Type 0} (files : ℕ) (events : List (Event A)) (x : Event A)
    → files_after files (events ++ (x ∷ [])) ≡ next_files (files_after files events) x
files-more files [] x = refl
files-more files (y ∷ events) x = files-more (next_files files y) events x

begun : {A : Type 0} (heard : List (Event A)) → files_after 0 (reverse heard) ≡ files_heard heard
begun [] = refl
begun (x ∷ heard) = ap (files_after 0) (reverse-append (x ∷ []) heard) ∙ files-more 0 (reverse heard) x ∙ ap (λ files. next_files files x) (begun heard)

-- the text of events is that of their rows
pub table_events_text : (heard : List (Event Global)) → csv_text (table_events_rows 0 [] (reverse heard)) ≡ text_of table_text heard
unfolding csv_text table_events_rows
table_events_text [] = refl
table_events_text (x ∷ heard) =
    ap (λ events. csv_text (table_events_rows 0 [] events)) (reverse-append (x ∷ []) heard)
    ∙ ap csv_text (table-more 0 [] (reverse heard) x)
    ∙ text_append (table_events_rows 0 [] (reverse heard)) (table_event_rows (files_after 0 (reverse heard)) (records_after [] (reverse heard)) x)
    ∙ ap (λ text. text ++ csv_text (table_event_rows (files_after 0 (reverse heard)) (records_after [] (reverse heard)) x)) (table_events_text heard)
    ∙ ap₂ (λ files before. text_of table_text heard ++ csv_text (table_event_rows files before x)) (begun heard) (latest heard)
