-- The texts of the conversions by those of their reports.
use Rattle.fit_csv.proofs.Common.{◌++◌, ap, escaped, fields_text, is_blank, csv_text, csv_line, table_text, rows_of, table_of, HasText}
use Rattle.std.proofs.Common.{codes}
use Rattle.fit_rows.proofs.ToldRows.{events_text}
use Rattle.fit_table.proofs.ToldTable.{table_events_text}
use Rattle.fit_table.specs.declared.rows.TheConstants.{TABLE_LINE}

-- the text of the rows of events is the first line and the lines of the events
pub rows_text : HasText (codes "row,a,b,c,d,e,f\n") csv_line rows_of
unfolding csv_text escaped fields_text is_blank
rows_text heard = ap (λ text. codes "row,a,b,c,d,e,f\n" ++ text) (events_text heard)

-- the text of the table is the first line and the lines of the events
pub table_has_text : HasText TABLE_LINE.now table_text table_of
unfolding csv_text escaped fields_text is_blank
table_has_text heard = ap (λ text. TABLE_LINE.now ++ text) (table_events_text heard)
