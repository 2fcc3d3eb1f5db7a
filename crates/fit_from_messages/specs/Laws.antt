-- What holds of blocks that are read back.
use Rattle.std.specs.Prelude.{◌≡◌, ◌==◌, ℕ, List, [], ◌∷◌, Option, Some, None, Result, Ok, Err, flat_map, if◌then◌else◌, reverse}
use Rattle.std.specs.Global.{Global}
use Rattle.fit_base.specs.Numbers.{IsBytes}
use Rattle.fit_frame.specs.declared.header.Header.{Header}
use Rattle.fit_record.specs.declared.file.FitFile.{FitFile}
use Rattle.fit_record.specs.declared.message.Record.{Record}
use Rattle.fit_record.specs.declared.message.Record.TheVariants.{Define, Values as Data}
use Rattle.fit_record.specs.Files.{IsChain, chain_limit}
use Rattle.fit_chain.specs.Events.{file_events}
use Rattle.fit_report.specs.Heard.{text_of}
use Rattle.fit_messages.specs.Blocks.{event_block}
use Rattle.fit_from_messages.specs.FromBlocks.{AreBlocksOf, AreWrong}
use Rattle.fit_from_messages.specs.Parts.{definition_in, header_in, kind}
use Rattle.fit_from_messages.specs.SaysChain.{Begun, Said, SaysChain, after, message_said, nothing_said}
use Rattle.fit_from_messages.specs.declared.fault.BlocksFault.{BlocksFault}

-- Blocks say at most one chain.
abbrev pub BlocksSayOne : Type 0
BlocksSayOne = (blocks : List ℕ) (f g : List (FitFile Global)) → SaysChain blocks f → SaysChain blocks g → f ≡ g

-- What is found of blocks: they are those of a chain with these bytes, or this is wrong with them.
abbrev pub IsBlocksFinding : List ℕ → Result (List ℕ) BlocksFault → Type 0
IsBlocksFinding blocks (Ok bytes) = (files : List (FitFile Global)) × AreBlocksOf blocks files bytes
IsBlocksFinding blocks (Err fault) = AreWrong blocks fault

-- Blocks have one finding at most: the bytes of one chain, or one fault, which is of one block for one reason or of one file.
abbrev pub BlocksHaveOneFinding : Type 0
BlocksHaveOneFinding = (blocks : List ℕ) (a b : Result (List ℕ) BlocksFault) → IsBlocksFinding blocks a → IsBlocksFinding blocks b → a ≡ b

-- the blocks that a report makes of a chain, one after another
abbrev pub chain_blocks : List (FitFile Global) → List ℕ
chain_blocks files = text_of event_block (reverse (flat_map file_events files))

-- The blocks of a chain are read as that chain.
abbrev pub BlocksComeBack : Type 0
BlocksComeBack = (files : List (FitFile Global)) (bytes : List ℕ) → IsBytes bytes → IsChain chain_limit files bytes
    → AreBlocksOf (chain_blocks files) files bytes

-- what a block says: the header of a file, a record, or the end of a file
pub data Saying : Type 0 where
  a_header : Header → Saying
  a_record : Record Global → Saying
  an_end : Saying

-- outside a file, and in one that has begun
abbrev pub says_in : Option Begun → List ℕ → Saying
says_in None block = a_header (header_in block)
says_in (Some f) block =
    if kind block == 2 then a_record (Define (definition_in block)) else
    if kind block == 3 then a_record (Data (message_said f block)) else
    an_end

-- what blocks say, one after another, after what has been said
abbrev pub sayings : Said → List (List ℕ) → List Saying
sayings said [] = []
sayings said (block ∷ blocks) = says_in said.current block ∷ sayings (after said block) blocks

-- Blocks that say a chain, and those that a report makes of this chain, are as many, and say the same, block by block.
abbrev pub ItemsComeBack : Type 0
ItemsComeBack = (blocks : List ℕ) (files : List (FitFile Global)) (bytes : List ℕ) → IsBytes bytes → (given : AreBlocksOf blocks files bytes)
    → (made : AreBlocksOf (chain_blocks files) files bytes)
    × (sayings nothing_said given.says.blocks ≡ sayings nothing_said made.says.blocks)
