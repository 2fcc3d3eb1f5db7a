-- What holds of the rows of chains.
use Rattle.std.specs.Prelude.{◌≡◌, List, flat_map}
use Rattle.fit_record.specs.declared.file.FitFile.{FitFile}
use Rattle.fit_chain.specs.Events.{file_events}
use Rattle.fit_rows.specs.ChainRows.{chain_rows, rows_of}

-- the rows of the events of a chain are the rows of the chain
abbrev pub EventsHaveTheRows : Type 0 → Type 0
EventsHaveTheRows A = (files : List (FitFile A)) → rows_of (flat_map file_events files) ≡ chain_rows files
