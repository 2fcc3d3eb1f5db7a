-- The lines of a chain, as `show` writes them, are those of its events.
use Rattle.fit_show.proofs.Common.{◌≡◌, ◌∙◌, ◌+◌, [], ◌∷◌, ◌++◌, length, map, refl, sym, ap, append_assoc, flat_map, reverse-append, FitFile, Record, body}
use Rattle.fit_show.proofs.Common.{Event, header, item, file_end, file_events, Lines, latest_records, text_of, files_heard, header_line, record_line}
use Rattle.fit_show.proofs.Common.{record_lines, show_files, show_line, show_lines}
use Rattle.std.proofs.Common.{ℕ, List, reverse}
use Rattle.std.proofs.lemmas.List.{append-nil}

-- the text of events after others
abbrev text_after : {A : Type 0} → Lines A → List (Event A) → List (Event A) → List ℕ
text_after line heard [] = []
text_after line heard (x ∷ events) = line heard x ++ text_after line (x ∷ heard) events

text-after : {A : Type 0} (line : Lines A) (heard events : List (Event A))
    → text_of line (reverse events ++ heard) ≡ text_of line heard ++ text_after line heard events
text-after line heard [] = sym (append-nil (text_of line heard))
text-after line heard (x ∷ events) =
    ap (text_of line) (ap (λ es. es ++ heard) (reverse-append (x ∷ []) events) ∙ append_assoc (reverse events) (x ∷ []) heard)
    ∙ text-after line (x ∷ heard) events
    ∙ append_assoc (text_of line heard) (line heard x) (text_after line (x ∷ heard) events)

-- the records of a file, and then other events
lines-of-records : {A : Type 0} (k : ℕ) (heard : List (Event A)) (records : List (Record A)) (rest : List (Event A)) (text : List ℕ) → files_heard heard ≡ k
    → ((beyond : List (Event A)) → files_heard beyond ≡ k → text_after show_line beyond rest ≡ text)
    → text_after show_line heard (map item records ++ (file_end ∷ rest)) ≡ record_lines (latest_records heard) records ++ text
unfolding record_lines
lines-of-records k heard [] rest text count others = others (file_end ∷ heard) count
lines-of-records k heard (r ∷ records) rest text count others =
    ap (λ more. record_line (latest_records heard) r ++ more) (lines-of-records k (item r ∷ heard) records rest text count others)
    ∙ sym (append_assoc (record_line (latest_records heard) r) (record_lines (r ∷ latest_records heard) records) text)

lines-of-files : {A : Type 0} (k : ℕ) (heard : List (Event A)) (files : List (FitFile A)) → files_heard heard + 1 ≡ k
    → text_after show_line heard (flat_map file_events files) ≡ show_files k files
unfolding show_files
lines-of-files k heard [] count = refl
lines-of-files k heard (f ∷ files) count =
    let n = length (body f) in
    let rest = flat_map file_events files in
    let now = header f.header (length (body f)) ∷ heard in
    ap (λ events. header_line (files_heard heard + 1) f.header (length (body f)) ++ text_after show_line (header f.header (length (body f)) ∷ heard) events)
    (append_assoc (map item f.records) (file_end ∷ []) (flat_map file_events files))
    ∙ ap (λ text. header_line (files_heard heard + 1) f.header (length (body f)) ++ text)
    (lines-of-records k (header f.header (length (body f)) ∷ heard) f.records (flat_map file_events files) (show_files (k + 1) files) count
    (λ beyond same. lines-of-files (k + 1) beyond files (ap (λ m. m + 1) same)))
    ∙ ap (λ m. header_line m f.header n ++ (record_lines [] f.records ++ show_files (k + 1) files)) count
    ∙ sym (append_assoc (header_line k f.header (length (body f))) (record_lines [] f.records) (show_files (k + 1) files))

pub lines-of-chain : {A : Type 0} (files : List (FitFile A)) → text_of show_line (reverse (flat_map file_events files)) ≡ show_lines files
lines-of-chain files =
    ap (text_of show_line) (sym (append-nil (reverse (flat_map file_events files)))) ∙ text-after show_line [] (flat_map file_events files)
    ∙ lines-of-files 1 [] files refl
