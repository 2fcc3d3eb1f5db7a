-- Chains of which some blocks have come. No public contract names these.
use Rattle.std.specs.Prelude.{◌≡◌, ◌+◌, ◌<◌, ◌≤◌, ℕ, List, ◌++◌, length, Option, Some, None, option_map}
use Rattle.std.specs.Global.{Global}
use Rattle.std.specs.List.{AllByRecursion}
use Rattle.fit_frame.specs.Header.{FormFits}
use Rattle.fit_record.specs.declared.file.FitFile.{FitFile}
use Rattle.fit_record.specs.Environment.{empty_environment}
use Rattle.fit_record.specs.Files.{chain_limit}
use Rattle.fit_record.specs.Records.{AllFit}
use Rattle.fit_from_messages.specs.FromBlocks.{BeginAFile}
use Rattle.fit_from_messages.specs.SaysChain.{IsRefusedBlock, Said, Say, SaysChain, joined_blocks, nothing_said}
use Rattle.fit_from_messages.specs.declared.chain.Chain.{Chain}
use Rattle.fit_from_messages.specs.declared.fault.BlocksFault.{BlocksFault}
use Rattle.fit_from_messages.specs.declared.fault.BlocksFault.TheVariants.{Block, NoMemory}
use Rattle.fit_from_messages.specs.declared.misfit.Misfit.{Misfit}
use Rattle.fit_from_messages.specs.declared.misfit.Misfit.TheVariants as misfit
use Rattle.fit_from_messages.specs.declared.file.OpenFile.{OpenFile}
use Rattle.fit_from_messages.specs.inner.OpenFiles.{IsGoodFile, begun_of}

-- what blocks have said
abbrev pub said_yet : Chain → Said
said_yet c = record { files = c.files; current = option_map begun_of c.current }

-- a file that blocks can say: nothing but the length of its data, or zeros for a sum of 0, can be wrong with it
pub record IsSaidFile (f : FitFile Global) : Type 0 where
  pub form : FormFits f.header
  pub fit : AllFit empty_environment f.records

-- there may be one more file
abbrev pub IsGoodCurrent : ℕ → Option OpenFile → Type 0
IsGoodCurrent count None = count ≤ chain_limit
IsGoodCurrent count (Some f) = (count < chain_limit) × IsGoodFile f

pub record IsGoodChain (c : Chain) : Type 0 where
  pub files : AllByRecursion IsSaidFile c.files
  pub current : IsGoodCurrent (length c.files) c.current

-- That many blocks have come, and these bytes are left of all.
pub record HasSaid (bytes rest : List ℕ) (count : ℕ) (c : Chain) : Type 0 where
  pub blocks : List (List ℕ)
  pub are_joined : bytes ≡ joined_blocks blocks ++ rest
  pub say : Say nothing_said blocks (said_yet c)
  pub counted : count ≡ length blocks
  pub few : count + length rest ≤ length bytes
  pub sound : IsGoodChain c

-- A block can't stand where it is, or memory was refused after a header.
abbrev pub IsUnreadBlock : List ℕ → BlocksFault → Type 0
IsUnreadBlock bytes (Block number place reason) = IsRefusedBlock bytes number place reason
IsUnreadBlock bytes NoMemory = BeginAFile bytes
IsUnreadBlock bytes _ = ⊥

-- the fault at the block of this number and place
abbrev pub fault_at : ℕ → ℕ → Misfit → BlocksFault
fault_at number place (misfit.Block why) = Block number place why
fault_at number place misfit.NoMemory = NoMemory

-- The bytes are blocks that say these files, which can be written but for the length of their data and zeros for sums of 0.
pub record AreSaid (bytes : List ℕ) (files : List (FitFile Global)) : Type 0 where
  pub says : SaysChain bytes files
  pub each : AllByRecursion IsSaidFile files
  pub few : length files ≤ chain_limit
