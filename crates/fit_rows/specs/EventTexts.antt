-- The text of an event, as reporters of rows tell it.
use Rattle.std.specs.Global.{Global}
use Rattle.fit_report.specs.Heard.{Lines, latest_records}
use Rattle.fit_cells.specs.Rows.{csv_text}
use Rattle.fit_rows.specs.ChainRows.{event_rows}

-- the rows of an event after others, the latest first
abbrev pub csv_line : Lines Global
csv_line heard x = csv_text (event_rows (latest_records heard) x)
