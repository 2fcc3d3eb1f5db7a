-- Why a text isn't read, or its rows aren't those of a chain. No public contract names these: `IsWrong` of FromText has the faults of a
-- text alone, and these come with that memory was refused.
use Rattle.std.specs.Prelude.{◌≡◌, ◌⊎◌, ◌<◌, ◌^◌, ℕ, Bool, true, false, List, length, Option}
use Rattle.std.specs.Io.KnownBytes.{Consumes}
use Rattle.fit_cells.specs.Rows.{Row}
use Rattle.fit_csv.specs.Judged.{HasNoHeader, IsCutOff, IsRefusedRow, IsRowFault}
use Rattle.fit_csv.specs.declared.fault.CsvFault.{CsvFault}
use Rattle.fit_csv.specs.declared.fault.CsvFault.TheVariants.{BadCell, BadRow, Header, NoMemory, Read}

-- what is wrong with the row of this number, or that memory was refused
abbrev pub IsUnjudged : (Row → Type 0) → Row → ℕ → CsvFault → Type 0
IsUnjudged CanStand r number NoMemory = Unit {0}
IsUnjudged CanStand r number fault = IsRowFault CanStand r number fault

-- why the rows of a text aren't those of a chain, or that memory was refused
abbrev pub IsTextFault : List ℕ → CsvFault → Type 0
IsTextFault text Header = HasNoHeader text
IsTextFault text (BadRow row) = IsRefusedRow text (BadRow row) ⊎ IsCutOff text row
IsTextFault text (BadCell row column) = IsRefusedRow text (BadCell row column)
IsTextFault text NoMemory = Unit {0}
IsTextFault text _ = ⊥

-- why these bytes aren't a whole text: the source failed, or they are more than 2^62; or that memory was refused
abbrev pub IsUnread : List ℕ → Bool → CsvFault → Type 0
IsUnread taken failed Read = (failed ≡ true) ⊎ (2 ^ 62 < length taken)
IsUnread taken failed NoMemory = failed ≡ false
IsUnread taken failed _ = ⊥

-- the same of a call
abbrev pub IsReadFault : Option (List ℕ) → Option (List ℕ) → Bool → CsvFault → Type 0
IsReadFault before after failed fault = (taken : List ℕ) × Consumes before after taken × IsUnread taken failed fault
