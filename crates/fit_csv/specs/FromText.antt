-- What `from_csv` answers and writes.
use Rattle.std.specs.Prelude.{◌≡◌, ◌⊎◌, ◌<◌, ◌≤◌, ◌^◌, ℕ, true, false, List, [], Some, Result, Ok, Err, length}
use Rattle.std.specs.Global.{Global}
use Rattle.std.specs.Io.KnownBytes.{Appends, Consumes, IsAtEnd}
use Rattle.fit_base.specs.Numbers.{IsBytes}
use Rattle.fit_record.specs.declared.file.FitFile.{FitFile}
use Rattle.fit_record.specs.Files.{IsChain, chain_limit}
use Rattle.fit_encode.specs.declared.fault.EncodeFault.{EncodeFault}
use Rattle.fit_encode.specs.declared.fault.EncodeFault.TheVariants as encode
use Rattle.fit_encode.specs.Faults.{IsFirstFault, StopsAt}
use Rattle.fit_rows.specs.ChainRows.{chain_rows}
use Rattle.fit_csv.specs.Judged.{AreFilesOf, HasNoHeader, IsCutOff, IsRefusedRow}
use Rattle.fit_cells.specs.Rows.{RowsOfText}
use Rattle.fit_report.specs.Reports.{Channel}
use Rattle.fit_csv.specs.declared.fault.CsvFault.{CsvFault}
use Rattle.fit_csv.specs.declared.fault.CsvFault.TheVariants.{BadCell, BadRow, Encode, Header, NoMemory, Read, Write}

-- the fault of files that rows gave and that weren't written
abbrev pub written_fault : EncodeFault → CsvFault
written_fault encode.NoMemory = NoMemory
written_fault (encode.Write written) = Write written
written_fault fault = Encode fault

-- The text has at most 2^62 bytes, and its rows are those of the chain with these bytes.
pub record IsTextOf (text : List ℕ) (files : List (FitFile Global)) (bytes : List ℕ) : Type 0 where
  pub short : length text ≤ 2 ^ 62
  pub rows : RowsOfText text (chain_rows files)
  pub are_bytes : IsBytes bytes
  pub chain : IsChain chain_limit files bytes

-- The text is that of a chain, and the bytes of that chain were put after what the sink held. The sink hasn't failed.
abbrev pub FromText : List ℕ → Channel → Type 0
FromText text sink =
    (files : List (FitFile Global)) × (bytes : List ℕ) × IsTextOf text files bytes × Appends sink.before sink.after bytes × (sink.failed ≡ false)

-- The text has at most 2^62 bytes, and its rows are those of files that can't be written as a chain, for this first reason.
abbrev pub IsUnwritable : List ℕ → EncodeFault → Type 0
IsUnwritable text fault = (length text ≤ 2 ^ 62) × ((files : List (FitFile Global)) × AreFilesOf text files × IsFirstFault files fault)

-- What is wrong with a text of at most 2^62 bytes: its first row isn't the first line; a row or a cell can't stand where it is, or
-- the text ends too early; or the rows are those of files, but a file has too much data or zeros in place of a checksum that is 0.
abbrev pub IsWrong : List ℕ → CsvFault → Type 0
IsWrong text Header = (length text ≤ 2 ^ 62) × HasNoHeader text
IsWrong text (BadRow row) = (length text ≤ 2 ^ 62) × (IsRefusedRow text (BadRow row) ⊎ IsCutOff text row)
IsWrong text (BadCell row column) = (length text ≤ 2 ^ 62) × IsRefusedRow text (BadCell row column)
IsWrong text (Encode (encode.TooLong file index)) = IsUnwritable text (encode.TooLong file index)
IsWrong text (Encode (encode.ZeroIsSum file)) = IsUnwritable text (encode.ZeroIsSum file)
IsWrong text _ = ⊥

-- What is found of a text: it is one of a chain with these bytes, or this is wrong with it. A text has one finding at most, as the
-- law `texts_have_one_finding` says.
abbrev pub IsTextFinding : List ℕ → Result (List ℕ) CsvFault → Type 0
IsTextFinding text (Ok bytes) = (files : List (FitFile Global)) × IsTextOf text files bytes
IsTextFinding text (Err fault) = IsWrong text fault

-- Why a whole text isn't written as a chain: something is wrong with it, or the sink failed in the bytes of the chain.
abbrev pub FromFault : List ℕ → Channel → CsvFault → Type 0
FromFault text sink (Write written) =
    (files : List (FitFile Global)) × (bytes : List ℕ) × IsTextOf text files bytes × StopsAt sink.before sink.after sink.failed bytes written
FromFault text sink fault = IsWrong text fault

-- The source is at its end, and hasn't failed.
abbrev pub IsReadOut : Channel → Type 0
IsReadOut source = IsAtEnd source.after × (source.failed ≡ false)

-- a text that was read to its end
abbrev pub read_out : List ℕ → Channel
read_out text = record { before = Some text; after = Some []; failed = false }

-- What was answered after this text was taken. All answers but `Read` and `NoMemory` come after the whole input was taken. `Read`
-- comes where the source failed, or where the text is too long.
abbrev pub Answers : List ℕ → Channel → Channel → Result (Unit {0}) CsvFault → Type 0
Answers text source sink (Ok _) = IsReadOut source × FromText text sink
Answers text source sink (Err Read) = (source.failed ≡ true) ⊎ (2 ^ 62 < length text)
Answers text source sink (Err NoMemory) = source.failed ≡ false
Answers text source sink (Err fault) = IsReadOut source × FromFault text sink fault

-- Some text was taken from the source, and this was answered.
abbrev pub ReadsText : Channel → Channel → Result (Unit {0}) CsvFault → Type 0
ReadsText source sink result = (text : List ℕ) × Consumes source.before source.after text × Answers text source sink result

-- The answer where the rows of a text are those of the chain with these bytes: they were written; or the source or the sink has
-- failed, or memory was refused.
abbrev pub FromTextOf : List ℕ → Channel → Channel → Result (Unit {0}) CsvFault → Type 0
FromTextOf bytes source sink (Ok _) = Appends sink.before sink.after bytes × (sink.failed ≡ false)
FromTextOf bytes source sink (Err Read) = source.failed ≡ true
FromTextOf bytes source sink (Err NoMemory) = source.failed ≡ false
FromTextOf bytes source sink (Err (Write written)) = StopsAt sink.before sink.after sink.failed bytes written
FromTextOf bytes source sink (Err other) = ⊥

-- of every fault but one of the sink
abbrev pub UnlessWritten : CsvFault → Type 0 → Type 0
UnlessWritten (Write written) P = Unit {0}
UnlessWritten _ P = P
