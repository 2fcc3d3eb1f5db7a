-- Blocks that are worked by hand from `docs/BLOCKS.md`, and the data sections of the files that they say.
use Rattle.std.proofs.Common.{◌≡◌, ℕ, [], ◌∷◌, refl, List}
use Rattle.std.specs.Prelude.{Option, Some, None, map, option_map}
use Rattle.fit_record.specs.Files.{body}
use Rattle.fit_messages.proofs.KnownBlocks.{both_architectures_in_blocks, described_field_in_blocks, empty_file_in_blocks}
use Rattle.fit_from_messages.specs.declared.fault.BlockReason.{BlockReason}
use Rattle.fit_from_messages.specs.SaysChain.{Said, after, nothing_said, reason}

abbrev when_it_stands : Option BlockReason → Option Said → Option Said
when_it_stands None said = said
when_it_stands (Some why) said = None

-- what blocks say, where each can stand
abbrev said_by : Said → List (List ℕ) → Option Said
said_by said [] = Some said
said_by said (block ∷ blocks) = when_it_stands (reason said block) (said_by (after said block) blocks)

empty_file_said : option_map (λ said. map body said.files) (said_by nothing_said empty_file_in_blocks) ≡ Some
    (([]) ∷ [])
empty_file_said = refl

both_architectures_said : option_map (λ said. map body said.files) (said_by nothing_said both_architectures_in_blocks) ≡ Some
    ((64 ∷ 0 ∷ 0 ∷ 20 ∷ 0 ∷ 2 ∷ 253 ∷ 4 ∷ 134 ∷ 3 ∷ 1 ∷ 2 ∷ 0 ∷ 31 ∷ 202 ∷ 154
    ∷ 59 ∷ 120 ∷ 65 ∷ 0 ∷ 1 ∷ 0 ∷ 20 ∷ 2 ∷ 2 ∷ 2 ∷ 132 ∷ 8 ∷ 3 ∷ 13 ∷ 162 ∷ 9
    ∷ 196 ∷ 100 ∷ 0 ∷ 16 ∷ []) ∷ [])
both_architectures_said = refl

described_field_said : option_map (λ said. map body said.files) (said_by nothing_said described_field_in_blocks) ≡ Some
    ((64 ∷ 0 ∷ 0 ∷ 206 ∷ 0 ∷ 4 ∷ 0 ∷ 1 ∷ 2 ∷ 1 ∷ 1 ∷ 2 ∷ 2 ∷ 1 ∷ 2 ∷ 3
    ∷ 3 ∷ 7 ∷ 97 ∷ 0 ∷ 0 ∷ 20 ∷ 0 ∷ 0 ∷ 1 ∷ 5 ∷ 2 ∷ 0 ∷ 1 ∷ 52 ∷ 18 ∷ 0
    ∷ 0 ∷ 5 ∷ 132 ∷ 109 ∷ 111 ∷ 0 ∷ 1 ∷ 52 ∷ 18 ∷ 97 ∷ 0 ∷ 0 ∷ 20 ∷ 0 ∷ 0 ∷ 1
    ∷ 5 ∷ 2 ∷ 0 ∷ 1 ∷ 52 ∷ 18 ∷ []) ∷ [])
described_field_said = refl
