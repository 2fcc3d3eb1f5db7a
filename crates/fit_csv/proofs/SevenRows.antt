-- Each row of a chain has seven cells.
use Rattle.fit_csv.proofs.Common.{◌≡◌, arith, [], ◌∷◌, ◌++◌, length, map, refl, subst, flat_map, zip, AllByRecursion, MessageDef, Defined, FitFile, Record}
use Rattle.fit_csv.proofs.Common.{Define, Data, Values, defined_at, dev_defs, Naming, namings_at, known, header_time, previous_time, chain_rows, data_row}
use Rattle.fit_csv.proofs.Common.{def_row, definition_rows, dev_def_row, dev_row, dev_rows, end_row, field_def_row, field_row, field_rows, file_row, file_rows}
use Rattle.fit_csv.proofs.Common.{message_rows, record_rows, records_rows, NoneEmpty, Row, RowsOfText, csv_text, begins-otherwise, reads_back}
use Rattle.std.proofs.Common.{List, ℕ, Option, Some, None}
use Rattle.std.specs.Prelude.{codes, option_map, unwrap_or}

abbrev AllSeven : List Row → Type 0
AllSeven rows = AllByRecursion (λ r. length r ≡ 7) rows

both-seven : (a b : List Row) → AllSeven a → AllSeven b → AllSeven (a ++ b)
both-seven [] b p q = q
both-seven (r ∷ a) b p q = (p.0, both-seven a b p.1 q)

mapped-seven : {X : Type 0} (f : X → Row) (xs : List X) → ((x : X) → length (f x) ≡ 7) → AllSeven (map f xs)
mapped-seven f [] each = tt
mapped-seven f (x ∷ xs) each = (each x, mapped-seven f xs each)

definition-seven : {A : Type 0} (d : MessageDef A) → AllSeven (definition_rows d)
definition-seven d =
    both-seven (def_row d ∷ map field_def_row d.fields) (map dev_def_row (dev_defs d.dev)) (refl, mapped-seven field_def_row d.fields (λ f. refl))
    (mapped-seven dev_def_row (dev_defs d.dev) (λ f. refl))

message-seven : {A : Type 0} (v : Values A) (p : Defined A) (time : Option ℕ) (namings : List Naming) → AllSeven (message_rows v p time namings)
message-seven v p time namings =
    both-seven (data_row v p.definition.global time ∷ field_rows p.definition.global p.definition.fields v.fields)
    (dev_rows (dev_defs p.definition.dev) p.dev_codes namings v.dev)
    (refl, mapped-seven (λ x. field_row p.definition.global x.0 x.1) (zip p.definition.fields v.fields) (λ x. refl))
    (mapped-seven (λ x. dev_row x.0.0 x.0.1 x.1.0 x.1.1) (zip (zip (dev_defs p.definition.dev) p.dev_codes) (zip namings v.dev)) (λ x. refl))

defined-seven : {A : Type 0} (v : Values A) (time : Option ℕ) (namings : List Naming) (o : Option (Defined A))
    → AllSeven (unwrap_or (option_map (λ p. message_rows v p time namings) o) [])
defined-seven v time namings None = tt
defined-seven v time namings (Some p) = message-seven v p time namings

pub record-seven : {A : Type 0} (before : List (Record A)) (r : Record A) → AllSeven (record_rows before r)
record-seven before (Define d) = definition-seven d
record-seven before (Data v) = defined-seven v (header_time (previous_time before) v.offset) (namings_at before v.local) (defined_at (known before) v.local)

records-seven : {A : Type 0} (before records : List (Record A)) → AllSeven (records_rows before records)
unfolding records_rows
records-seven before [] = tt
records-seven before (r ∷ records) = both-seven (record_rows before r) (records_rows (r ∷ before) records) (record-seven before r)
    (records-seven (r ∷ before) records)

files-seven : {A : Type 0} (files : List (FitFile A)) → AllSeven (flat_map file_rows files)
files-seven [] = tt
files-seven (f ∷ files) =
    both-seven (file_rows f) (flat_map file_rows files)
    (both-seven (file_row f.header ∷ records_rows [] f.records) (end_row ∷ []) (refl, records-seven [] f.records) (refl, tt)) (files-seven files)

pub none-empty : (rows : List Row) → AllSeven rows → NoneEmpty rows
unfolding NoneEmpty
none-empty [] seven = tt
none-empty (r ∷ rows) seven = (λ e. let h = seven.0 in cc, none-empty rows seven.1)

-- the text of the rows of a chain reads as those rows
pub chain-reads-back : {A : Type 0} (files : List (FitFile A)) → RowsOfText (csv_text (chain_rows files)) (chain_rows files)
chain-reads-back files =
    reads_back (chain_rows files) (none-empty (chain_rows files) (refl, files-seven files))
    (begins-otherwise 114 (codes "ow") (codes "a" ∷ codes "b" ∷ codes "c" ∷ codes "d" ∷ codes "e" ∷ codes "f" ∷ []) (flat_map file_rows files)
    (omega arith))

within : (front : List Row) (r : Row) (more : List Row) → AllSeven (front ++ r ∷ more) → length r ≡ 7
within [] r more seven = seven.0
within (x ∷ front) r more seven = within front r more seven.1

-- a row of a chain has seven cells
pub row-seven : {A : Type 0} (files : List (FitFile A)) (front : List Row) (r : Row) (more : List Row) → chain_rows files ≡ front ++ r ∷ more → length r ≡ 7
row-seven files front r more e =
    let all : AllSeven (chain_rows files) = (refl, files-seven files) in
    within front r more (subst AllSeven e all)
