-- What `to_csv` and `table` put in a sink.
use Rattle.std.specs.Prelude.{◌≡◌, ℕ, true, false, List, Result, Ok, Err, take}
use Rattle.std.specs.Global.{Global}
use Rattle.std.specs.Io.KnownBytes.{Appends, Consumes, IsAtEnd}
use Rattle.fit_record.specs.Files.{chain_limit}
use Rattle.fit_chain.specs.declared.event.Fault.TheVariants as faults
use Rattle.fit_chain.specs.Checks.{AreChain}
use Rattle.fit_chain.specs.Events.{Event, AreEvents}
use Rattle.fit_chain.specs.Memory.{IsAny}
use Rattle.fit_decode.specs.Reads.{WantsMemory}
use Rattle.fit_report.specs.Reports.{Channel, IsInPiece, IsNearlyViable, TextFailsIn, Faults, before_fault}
use Rattle.fit_csv.specs.declared.fault.CsvFault.{CsvFault}
use Rattle.fit_csv.specs.declared.fault.CsvFault.TheVariants as csv
use Rattle.fit_cells.specs.Rows.{Row, csv_text}

-- the rows of events
abbrev pub RowsOf : Type 0
RowsOf = List (Event Global) → List Row

-- The text of the rows of the events of these bytes was put.
abbrev pub WritesRows : RowsOf → List ℕ → Channel → Type 0
WritesRows rows bytes sink = (events : List (Event Global)) × AreEvents bytes events × Appends sink.before sink.after (csv_text (rows events))

-- The rows of some first bytes were put, and memory was refused at a later byte of the last piece.
abbrev pub WritesSome : RowsOf → List ℕ → Channel → Type 0
WritesSome rows bytes sink = (k : ℕ) × WritesRows rows (take k bytes) sink × WantsMemory Global IsAny chain_limit IsInPiece k bytes

-- The sink has failed in the text of the rows of the events of some first bytes, after that many bytes.
abbrev pub RowsBreakOff : RowsOf → List ℕ → Channel → ℕ → Type 0
RowsBreakOff rows bytes sink written = (k : ℕ) × (events : List (Event Global)) × AreEvents (take k bytes) events
    × TextFailsIn (csv_text (rows events)) sink written

-- What was written of the input after so much of it was taken: all rows of a chain; the rows before a fault; the rows of some first
-- bytes, where memory was refused at a later byte of the last piece; or a part of such rows, where the sink failed, and then all but at
-- most a piece of what was taken begins a chain. A source that has failed is never answered as memory refused.
abbrev pub HasWritten : RowsOf → List ℕ → Channel → Channel → Result (Unit {0}) CsvFault → Type 0
HasWritten rows taken source sink (Ok _) = IsAtEnd source.after × (source.failed ≡ false) × AreChain Global taken × WritesRows rows taken sink
HasWritten rows taken source sink (Err (csv.Decode (faults.NoMemory used))) = ⊥
HasWritten rows taken source sink (Err (csv.Decode fault)) =
    Faults Global chain_limit taken source fault × WritesRows rows (before_fault fault taken) sink
HasWritten rows taken source sink (Err csv.NoMemory) = WritesSome rows taken sink × (source.failed ≡ false)
HasWritten rows taken source sink (Err (csv.Write written)) = RowsBreakOff rows taken sink written × IsNearlyViable Global chain_limit taken
HasWritten rows taken source sink (Err other) = ⊥

abbrev pub Converts : RowsOf → Channel → Channel → Result (Unit {0}) CsvFault → Type 0
Converts rows source sink result = (taken : List ℕ) × Consumes source.before source.after taken × HasWritten rows taken source sink result

-- The answer where the input is the bytes of a chain with these rows: they were written; or the source or the sink has failed, or
-- memory was refused.
abbrev pub ConvertsTo : List Row → Channel → Channel → Result (Unit {0}) CsvFault → Type 0
ConvertsTo rows source sink (Ok _) = Appends sink.before sink.after (csv_text rows)
ConvertsTo rows source sink (Err (csv.Decode (faults.Read place))) = source.failed ≡ true
ConvertsTo rows source sink (Err csv.NoMemory) = source.failed ≡ false
ConvertsTo rows source sink (Err (csv.Write written)) = sink.failed ≡ true
ConvertsTo rows source sink (Err other) = ⊥
