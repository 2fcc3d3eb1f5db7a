-- The rows of what a decoder answers, told one after another.
use Rattle.fit_rows.proofs.Common.{◌≡◌, ◌∙◌, [], ◌∷◌, ◌++◌, refl, ap, reverse-append, Event, text_of, Global, csv_text}
use Rattle.fit_rows.proofs.Common.{event_rows, events_rows, csv_line, text_append}
use Rattle.std.proofs.Common.{List, reverse}
use Rattle.fit_text_report.proofs.HeardEvents.{records_after, latest}
use Rattle.fit_rows.proofs.RowsOfEvents.{rows-more}

-- the text of events is that of their rows
pub events_text : (heard : List (Event Global)) → csv_text (events_rows [] (reverse heard)) ≡ text_of csv_line heard
unfolding csv_text events_rows
events_text [] = refl
events_text (x ∷ heard) =
    ap (λ events. csv_text (events_rows [] events)) (reverse-append (x ∷ []) heard)
    ∙ ap csv_text (rows-more [] (reverse heard) x)
    ∙ text_append (events_rows [] (reverse heard)) (event_rows (records_after [] (reverse heard)) x)
    ∙ ap (λ text. text ++ csv_text (event_rows (records_after [] (reverse heard)) x)) (events_text heard)
    ∙ ap (λ before. text_of csv_line heard ++ csv_text (event_rows before x)) (latest heard)
