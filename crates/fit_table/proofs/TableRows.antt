-- The table of a chain: it is that of its events, and its text reads as its rows.
use Rattle.fit_table.proofs.Common.{◌≡◌, ◌≢◌, ◌∙◌, ◌+◌, Bool, true, false, [], ◌∷◌, ◌++◌, map, refl, sym, ap, arith, append_assoc, flat_map, AllByRecursion}
use Rattle.fit_table.proofs.Common.{Defined, FitFile, Record, Define, Data, Values, defined_at, Event, item, file_end, file_events, known, NoneEmpty, Row}
use Rattle.fit_table.proofs.Common.{RowsOfText, csv_text, begins-otherwise, reads_back, table_events_rows, table_files_rows, table_line, table_of}
use Rattle.fit_table.proofs.Common.{drop, table_record_rows, table_records_rows, table_row, table_rows}
use Rattle.std.proofs.Common.{◌==◌, if◌then◌else◌, ℕ, List, Option, Some, None}
use Rattle.std.specs.Prelude.{codes, option_map, unwrap_or}
use Rattle.fit_profile.specs.Told.{told}

-- ---- the rows of events

table_data : {A : Type 0} (file : ℕ) (before records : List (Record A)) (rest : List (Event A)) (rows : List Row)
    → ((beyond : List (Record A)) → table_events_rows file beyond rest ≡ rows)
    → table_events_rows file before (map item records ++ (file_end ∷ rest)) ≡ table_records_rows file before records ++ rows
unfolding table_events_rows table_records_rows
table_data file before [] rest rows others = others before
table_data file before (r ∷ records) rest rows others =
    ap (λ more. table_record_rows file before r ++ more) (table_data file (r ∷ before) records rest rows others)
    ∙ sym (append_assoc (table_record_rows file before r) (table_records_rows file (r ∷ before) records) rows)

-- a file's events, and then others
table_file : {A : Type 0} (file : ℕ) (before : List (Record A)) (f : FitFile A) (rest : List (Event A)) (rows : List Row)
    → ((beyond : List (Record A)) → table_events_rows (file + 1) beyond rest ≡ rows)
    → table_events_rows file before (file_events f ++ rest) ≡ table_records_rows (file + 1) [] f.records ++ rows
unfolding table_events_rows
table_file file before f rest rows others =
    ap (λ events. table_events_rows (file + 1) [] events) (append_assoc (map item f.records) (file_end ∷ []) rest)
    ∙ table_data (file + 1) [] f.records rest rows others

table_files : {A : Type 0} (file : ℕ) (files : List (FitFile A)) (before : List (Record A))
    → table_events_rows file before (flat_map file_events files) ≡ table_files_rows (file + 1) files
unfolding table_events_rows table_files_rows
table_files file [] before = refl
table_files file (f ∷ files) before =
    table_file file before f (flat_map file_events files) (table_files_rows (file + 1 + 1) files) (table_files (file + 1) files)

pub table-of-chain : {A : Type 0} (files : List (FitFile A)) → table_of (flat_map file_events files) ≡ table_rows files
table-of-chain files = ap (λ rows. table_line ∷ rows) (table_files 0 files [])

-- ---- no row is empty

abbrev AllSome : List Row → Type 0
AllSome rows = AllByRecursion (λ r. r ≢ []) rows

both-some : (a b : List Row) → AllSome a → AllSome b → AllSome (a ++ b)
both-some [] b p q = q
both-some (r ∷ a) b p q = (p.0, both-some a b p.1 q)

row-some : {A : Type 0} (file : ℕ) (before : List (Record A)) (v : Values A) (p : Defined A) (is_record : Bool)
    → AllSome (if is_record then table_row file p.definition v (told before v) ∷ [] else [])
row-some file before v p true = ((λ e. cc e), tt)
row-some file before v p false = tt

message-some : {A : Type 0} (file : ℕ) (before : List (Record A)) (v : Values A) (o : Option (Defined A))
    → AllSome (unwrap_or (option_map (λ p. if p.definition.global == 20 then table_row file p.definition v (told before v) ∷ [] else []) o) [])
message-some file before v None = tt
message-some file before v (Some p) = row-some file before v p (p.definition.global == 20)

record-some : {A : Type 0} (file : ℕ) (before : List (Record A)) (r : Record A) → AllSome (table_record_rows file before r)
record-some file before (Define d) = tt
record-some file before (Data v) = message-some file before v (defined_at (known before) v.local)

records-some : {A : Type 0} (file : ℕ) (before records : List (Record A)) → AllSome (table_records_rows file before records)
unfolding table_records_rows
records-some file before [] = tt
records-some file before (r ∷ records) =
    both-some (table_record_rows file before r) (table_records_rows file (r ∷ before) records) (record-some file before r)
    (records-some file (r ∷ before) records)

files-some : {A : Type 0} (file : ℕ) (files : List (FitFile A)) → AllSome (table_files_rows file files)
unfolding table_files_rows
files-some file [] = tt
files-some file (f ∷ files) =
    both-some (table_records_rows file [] f.records) (table_files_rows (file + 1) files) (records-some file [] f.records) (files-some (file + 1) files)

none-empty : (rows : List Row) → AllSome rows → NoneEmpty rows
unfolding NoneEmpty
none-empty [] some = tt
none-empty (r ∷ rows) some = (some.0, none-empty rows some.1)

-- the text of a chain's table reads as its rows
pub table-reads-back : {A : Type 0} (files : List (FitFile A)) → RowsOfText (csv_text (table_rows files)) (table_rows files)
table-reads-back files =
    reads_back (table_rows files) (none-empty (table_rows files) ((λ e. cc e), files-some 1 files))
    (begins-otherwise 102 (codes "ile") (drop 1 table_line) (table_files_rows 1 files) (omega arith))
