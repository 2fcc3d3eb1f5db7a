-- What `from_messages` answers and writes.
use Rattle.std.specs.Prelude.{◌≡◌, ℕ, false, List, ◌++◌, None, Result, Ok, Err}
use Rattle.std.specs.Global.{Global}
use Rattle.std.specs.Io.KnownBytes.{Appends}
use Rattle.fit_record.specs.declared.file.FitFile.{FitFile}
use Rattle.fit_record.specs.Files.{IsChain, chain_limit}
use Rattle.fit_encode.specs.declared.fault.EncodeFault.{EncodeFault}
use Rattle.fit_encode.specs.declared.fault.EncodeFault.TheVariants as encode
use Rattle.fit_encode.specs.Faults.{IsFirstFault, StopsAt}
use Rattle.fit_report.specs.Reports.{Channel}
use Rattle.fit_from_messages.specs.declared.fault.BlocksFault.{BlocksFault}
use Rattle.fit_from_messages.specs.declared.fault.BlocksFault.TheVariants.{Block, Encode, NoMemory, Write}
use Rattle.fit_from_messages.specs.SaysChain.{IsBlock, IsRefusedBlock, SaysChain, nothing_said, reason}

-- the fault of files that blocks say and that weren't written
abbrev pub unwritten_fault : EncodeFault → BlocksFault
unwritten_fault encode.NoMemory = NoMemory
unwritten_fault (encode.Write written) = Write written
unwritten_fault fault = Encode fault

-- The blocks are those of the chain with these bytes.
pub record AreBlocksOf (blocks : List ℕ) (files : List (FitFile Global)) (bytes : List ℕ) : Type 0 where
  pub says : SaysChain blocks files
  pub chain : IsChain chain_limit files bytes

-- The blocks are those of a chain, and its bytes were put after what the sink held. The sink hasn't failed.
abbrev pub FromBlocks : List ℕ → Channel → Type 0
FromBlocks blocks sink =
    (files : List (FitFile Global)) × (bytes : List ℕ) × AreBlocksOf blocks files bytes × Appends sink.before sink.after bytes × (sink.failed ≡ false)

-- The blocks say files that can't be written as a chain, for this first reason.
abbrev pub AreUnwritable : List ℕ → EncodeFault → Type 0
AreUnwritable blocks fault = (files : List (FitFile Global)) × SaysChain blocks files × IsFirstFault files fault

-- What is wrong with blocks: the first that can't stand where it is; or a file that they say has too much data, or zeros in place of a
-- checksum that is 0.
abbrev pub AreWrong : List ℕ → BlocksFault → Type 0
AreWrong blocks (Block number place reason) = IsRefusedBlock blocks number place reason
AreWrong blocks (Encode (encode.TooLong file index)) = AreUnwritable blocks (encode.TooLong file index)
AreWrong blocks (Encode (encode.ZeroIsSum file)) = AreUnwritable blocks (encode.ZeroIsSum file)
AreWrong blocks _ = ⊥

-- They begin with the block of a header that can stand there, and a block after it. Only then is memory taken.
pub record BeginAFile (blocks : List ℕ) : Type 0 where
  pub header : List ℕ
  pub next : List ℕ
  pub rest : List ℕ
  pub are_joined : blocks ≡ header ++ (next ++ rest)
  pub is_block : IsBlock header
  pub stands : reason nothing_said header ≡ None
  pub is_next : IsBlock next

-- Why blocks aren't written as a chain: something is wrong with them, memory was refused, or the sink failed in the bytes of the chain.
abbrev pub FromBlocksFault : List ℕ → Channel → BlocksFault → Type 0
FromBlocksFault blocks sink NoMemory = BeginAFile blocks
FromBlocksFault blocks sink (Write written) =
    (files : List (FitFile Global)) × (bytes : List ℕ) × AreBlocksOf blocks files bytes × StopsAt sink.before sink.after sink.failed bytes written
FromBlocksFault blocks sink fault = AreWrong blocks fault

-- The answer where the blocks are those of the chain with these bytes: they were written; or memory was refused, or the sink failed.
abbrev pub FromBlocksOf : List ℕ → Channel → Result (Unit {0}) BlocksFault → Type 0
FromBlocksOf bytes sink (Ok _) = Appends sink.before sink.after bytes × (sink.failed ≡ false)
FromBlocksOf bytes sink (Err NoMemory) = Unit {0}
FromBlocksOf bytes sink (Err (Write written)) = StopsAt sink.before sink.after sink.failed bytes written
FromBlocksOf bytes sink (Err other) = ⊥

-- of every fault but one of the sink
abbrev pub UnlessStopped : BlocksFault → Type 0 → Type 0
UnlessStopped (Write written) P = Unit {0}
UnlessStopped _ P = P
