-- What holds of the tables of chains, and of the computed degrees of positions.
use Rattle.std.specs.Prelude.{◌≡◌, ℤ, List, flat_map}
use Rattle.fit_record.specs.declared.file.FitFile.{FitFile}
use Rattle.fit_chain.specs.Events.{file_events}
use Rattle.fit_numbers.specs.Scaled.{IsDegrees}
use Rattle.fit_cells.specs.Rows.{RowsOfText, csv_text}
use Rattle.fit_table.specs.Table.{table_of, table_rows}
use Rattle.fit_table.specs.Degrees.{degrees_of}

-- the table of the events of a chain is the table of the chain
abbrev pub ChainsHaveTables : Type 0 → Type 0
ChainsHaveTables A = (files : List (FitFile A)) → table_of (flat_map file_events files) ≡ table_rows files

-- the text of a chain's table reads as its rows
abbrev pub TablesReadBack : Type 0 → Type 0
TablesReadBack A = (files : List (FitFile A)) → RowsOfText (csv_text (table_rows files)) (table_rows files)

-- the computed number of degrees is the nearest one
abbrev pub DegreesAreNearest : Type 0
DegreesAreNearest = (semicircles : ℤ) → IsDegrees semicircles (degrees_of semicircles)
