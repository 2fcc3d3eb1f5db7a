-- What is said of the bytes that were fed to a stream, and the text of them.
use Rattle.std.specs.Prelude.{◌≡◌, ℕ, ◌+◌, ◌-◌, ◌^◌, ◌≤◌, ◌<◌, min, List, [], ◌++◌, Result, Ok, Err, drop, length, reverse, slice_index, take}
use Rattle.std.specs.declared.alloc.Global.{Global}
use Rattle.fit_record.specs.declared.file.FitFile.{FitFile}
use Rattle.fit_record.specs.Files.{chain_limit, IsViable}
use Rattle.fit_chain.specs.declared.event.Fault.TheVariants as faults
use Rattle.fit_chain.specs.Checks.{AreFiles, IsFaultOf}
use Rattle.fit_chain.specs.Events.{Event, AreEvents}
use Rattle.fit_chain.specs.Memory.{IsAny, MayLackMemory, MayLackMemoryIn}
use Rattle.fit_chain.specs.Progress.{Progress, HasCome}
use Rattle.fit_chain.specs.Refusals.{IsRefused}
use Rattle.fit_report.specs.declared.fault.ReportFault.{ReportFault}
use Rattle.fit_report.specs.declared.fault.ReportFault.TheVariants as reports
use Rattle.fit_report.specs.Heard.{Lines, text_of}
use Rattle.fit_report.specs.Reports.{before_fault}

-- no text for any event
abbrev pub no_line : Lines Global
no_line heard x = []

-- The text is this first line and the lines of the events of the bytes.
abbrev pub HasLines : Lines Global → List ℕ → List ℕ → List ℕ → Type 0
HasLines line first bytes text = (heard : List (Event Global)) × AreEvents bytes (reverse heard) × (text ≡ first ++ text_of line heard)

-- The bytes begin a chain of files, of which that many have ended, and the text is that of their events.
pub record IsGoodSoFar (line : Lines Global) (first bytes text : List ℕ) (files : ℕ) : Type 0 where
  pub viable : IsViable Global chain_limit bytes
  pub lines : HasLines line first bytes text
  pub ended : (fs : List (FitFile Global)) × (g : Progress Global) × HasCome fs g bytes × (files ≡ length fs)

-- What is found of all bytes, and their text: that many files are a chain; or the byte at the place is the first one that belongs to no
-- chain, or the bytes end too soon, and the text is that of all before; or memory was refused, and the text is that of some first bytes,
-- and after these a byte stands that may take memory or completes an event, or it is a part of such a text.
abbrev pub IsFound : Lines Global → List ℕ → List ℕ → List ℕ → Result ℕ ReportFault → Type 0
IsFound line first bytes text (Ok files) = AreFiles bytes files × HasLines line first bytes text
IsFound line first bytes text (Err (reports.Decode (faults.NoMemory used))) = ⊥
IsFound line first bytes text (Err (reports.Decode fault)) = IsFaultOf bytes fault × HasLines line first (before_fault fault bytes) text
IsFound line first bytes text (Err reports.NoMemory) =
    (k : ℕ) × HasLines line first (take k bytes) text × (place : ℕ) × (k ≤ place) × MayLackMemory Global IsAny chain_limit bytes place
IsFound line first bytes text (Err (reports.Write written)) =
    (k : ℕ) × (heard : List (Event Global)) × IsViable Global chain_limit (take k bytes) × AreEvents (take k bytes) (reverse heard)
    × (n : ℕ) × (n < length (text_of line heard)) × (text ≡ first ++ take n (text_of line heard))

-- Where a piece after these bytes stops a stream, and the text of all bytes: at a byte of the piece that is refused, and the text is that of
-- all before it; or memory was refused at a byte of the piece that isn't refused, nor one before it, and that may take memory or completes an
-- event, and the text is that of some bytes before it, or that many first bytes of such a text. Bytes that end too soon stop nothing.
abbrev pub StopsIn : Lines Global → List ℕ → List ℕ → List ℕ → List ℕ → ReportFault → Type 0
StopsIn line first bytes piece text (reports.Decode (faults.Refused place reason)) =
    (k : ℕ) × (k < length piece) × (place ≡ length bytes + k) × IsRefused Global chain_limit (bytes ++ take k piece) (slice_index piece k) reason
    × HasLines line first (bytes ++ take k piece) text
StopsIn line first bytes piece text (reports.Decode fault) = ⊥
StopsIn line first bytes piece text reports.NoMemory =
    (k : ℕ) × HasLines line first (bytes ++ take k piece) text × MayLackMemoryIn Global IsAny (bytes ++ take k piece) (drop k piece)
StopsIn line first bytes piece text (reports.Write written) =
    (k : ℕ) × (heard : List (Event Global)) × IsViable Global chain_limit (bytes ++ take k piece) × AreEvents (bytes ++ take k piece) (reverse heard)
    × (n : ℕ) × (n < length (text_of line heard)) × (text ≡ first ++ take n (text_of line heard)) × (written ≡ min n (2 ^ 64 - 1))
