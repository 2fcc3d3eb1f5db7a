-- What is found of bytes that are all in memory.
use Rattle.std.specs.Prelude.{◌≡◌, ℕ, ◌+◌, ◌-◌, ◌^◌, ◌<◌, ◌≤◌, min, List, take, length, slice_index}
use Rattle.std.specs.declared.alloc.Global.{Global}
use Rattle.fit_record.specs.declared.file.FitFile.{FitFile}
use Rattle.fit_record.specs.Files.{IsChain, IsViable, chain_limit}
use Rattle.fit_chain.specs.declared.event.Fault.{Fault}
use Rattle.fit_chain.specs.declared.event.Fault.TheVariants.{Refused, Truncated, NoMemory, Read}
use Rattle.fit_chain.specs.Memory.{MayTakeMemory}
use Rattle.fit_chain.specs.Refusals.{IsRefused}

-- Some files, one after another, have these bytes.
abbrev pub AreChain : Type 0 → List ℕ → Type 0
AreChain A bytes = (files : List (FitFile A)) × IsChain chain_limit files bytes

-- That many files, one after another, have these bytes.
abbrev pub AreFiles : List ℕ → ℕ → Type 0
AreFiles bytes count = (files : List (FitFile Global)) × IsChain chain_limit files bytes × (length files ≡ count)

-- Why these bytes aren't known to be a chain of files: the byte at the place is the first one with which none begins; or they begin
-- one, and are none; or memory was refused after that many first bytes, which begin one.
abbrev pub IsFaultOf : List ℕ → Fault → Type 0
IsFaultOf bytes (Refused place reason) = (place < length bytes) × IsRefused Global chain_limit (take place bytes) (slice_index bytes place) reason
IsFaultOf bytes (Truncated place) = (place ≡ length bytes) × IsViable Global chain_limit bytes × (AreChain Global bytes → ⊥)
IsFaultOf bytes (NoMemory used) = (used ≤ length bytes) × IsViable Global chain_limit (take used bytes)
IsFaultOf bytes (Read place) = ⊥

-- Memory was refused at the byte after the first `used` ones, which isn't one to be refused, nor one that takes no memory.
abbrev pub LacksMemoryAt : List ℕ → Fault → Type 0
LacksMemoryAt bytes (NoMemory used) =
    (used < length bytes) × IsViable Global chain_limit (take (used + 1) bytes) × MayTakeMemory Global (take used bytes) (slice_index bytes used)
LacksMemoryAt bytes _ = Unit {0}

-- Memory was refused.
abbrev pub LacksMemory : Fault → Type 0
LacksMemory (NoMemory used) = Unit {0}
LacksMemory _ = ⊥

-- the fault of a piece that comes after that many bytes: the bytes taken before memory was refused are counted from the first of all,
-- up to 2^64 - 1
abbrev pub fault_after : ℕ → Fault → Fault
fault_after before (NoMemory used) = NoMemory (min (used + before) (2 ^ 64 - 1))
fault_after before fault = fault
