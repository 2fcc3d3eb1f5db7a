-- The texts of rows by the lines of streams.
use Rattle.fit_stream.proofs.Common.{◌≡◌, ◌∷◌, [], ◌++◌, ◌∙◌, List, Global, Event, refl, ap, reverse, text_of}
use Rattle.std.proofs.Common.{codes}
unfoldable use Rattle.fit_cells.specs.Rows.{csv_text}
unfoldable use Rattle.csv.specs.Writing.{escaped, fields_text, is_blank}
use Rattle.fit_cells.proofs.AddedRows.{text_append}
use Rattle.fit_rows.proofs.ToldRows.{events_text}
use Rattle.fit_rows.specs.ChainRows.{rows_of}
use Rattle.fit_rows.specs.EventTexts.{csv_line}
use Rattle.fit_table.proofs.ToldTable.{table_events_text}
use Rattle.fit_table.specs.EventTexts.{table_text}
use Rattle.fit_table.specs.Table.{table_events_rows, table_line, table_of}
use Rattle.fit_table.specs.declared.rows.TheConstants.{TABLE_LINE}
use Rattle.fit_stream.specs.Laws.{StreamsOfRows}

-- the text of the first line of the table, as the code has it
pub first_line_text : csv_text (table_line ∷ []) ≡ TABLE_LINE.now
unfolding csv_text escaped fields_text is_blank
first_line_text = refl

text_of_table : (heard : List (Event Global)) → csv_text (table_of (reverse heard)) ≡ csv_text (table_line ∷ []) ++ text_of table_text heard
text_of_table heard =
    text_append (table_line ∷ []) (table_events_rows 0 [] (reverse heard)) ∙ ap (λ text. csv_text (table_line ∷ []) ++ text) (table_events_text heard)

text_of_rows : (heard : List (Event Global)) → csv_text (rows_of (reverse heard)) ≡ codes "row,a,b,c,d,e,f\n" ++ text_of csv_line heard
unfolding csv_text escaped fields_text is_blank
text_of_rows heard = ap (λ text. codes "row,a,b,c,d,e,f\n" ++ text) (events_text heard)

pub streams_of_rows : StreamsOfRows
streams_of_rows = (text_of_table, text_of_rows)
