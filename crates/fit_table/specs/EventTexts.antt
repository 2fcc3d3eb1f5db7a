-- The text of an event, as the table tells it.
use Rattle.std.specs.Global.{Global}
use Rattle.fit_report.specs.Heard.{Lines, latest_records}
use Rattle.fit_cells.specs.Rows.{csv_text}
use Rattle.fit_text_report.specs.KeptEvents.{files_heard}
use Rattle.fit_table.specs.Table.{table_event_rows}

-- the same in the table
abbrev pub table_text : Lines Global
table_text heard x = csv_text (table_event_rows (files_heard heard) (latest_records heard) x)
