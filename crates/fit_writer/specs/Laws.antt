-- What holds of messages that are put.
use Rattle.std.specs.Prelude.{◌≡◌, ◌⊎◌, ◌==◌, ℕ, List, [], ◌∷◌, ◌++◌, flat_map, if◌then◌else◌, map, reverse, zip}
use Rattle.std.specs.Global.{Global}
use Rattle.std.specs.Io.KnownBytes.{Appends}
use Rattle.std.specs.List.{AllByRecursion}
use Rattle.fit_base.specs.Numbers.{IsBytes}
use Rattle.fit_record.specs.declared.file.FitFile.{FitFile}
use Rattle.fit_record.specs.declared.message.Record.{Record}
use Rattle.fit_record.specs.declared.message.Record.TheVariants.{Define, Values as Data}
use Rattle.fit_record.specs.Files.{IsChain, chain_limit}
use Rattle.fit_chain.specs.Events.{Event, header, item, file_end, file_events}
use Rattle.fit_decode.specs.Reads.{Channel}
use Rattle.fit_messages.specs.Blocks.{event_block}
use Rattle.fit_from_messages.specs.Parts.{definition_in, header_in}
use Rattle.fit_writer.specs.Describing.{IsDescribing}
use Rattle.fit_writer.specs.Finished.{IsFinished}
use Rattle.fit_writer.specs.Reading.{AllReadAs, Form, Reading, form_in, readings, said_reading}
use Rattle.fit_writer.specs.Written.{BeginsFile, EndsFile, IsPut, PutsDefinition, PutsMessage, Writing, nothing_written}
use Rattle.fit_writer.specs.Written.{IsDefinitionRefusal, IsHeaderRefusal, IsMessageRefusal}
use Rattle.fit_writer.specs.declared.refusal.Refusal.{Refusal}
use Rattle.fit_writer.specs.declared.refusal.Refusal.TheVariants.{NoMemory}

-- Where a reader is told what was put so far, it is after one more put, with the messages that were added before it to describe its developer
-- fields: none where nothing was to be described.
abbrev pub PutsAreRead : Type 0
PutsAreRead = (before after : List (Record Global)) (puts : List Reading) (f : Form) (block : List ℕ)
    → AllReadAs puts (readings before) → (is : IsPut before after f block)
    → (added : List Reading) × AllByRecursion IsDescribing added × (readings is.described ≡ readings before ++ added)
    × AllReadAs (puts ++ added ++ said_reading f block ∷ []) (readings after)

-- ---- the blocks of a chain

-- its events, the latest first
abbrev pub chain_heard : List (FitFile Global) → List (Event Global)
chain_heard files = reverse (flat_map file_events files)

-- the block of the last definition of a local message type
abbrev pub latest_definition : List (Event Global) → ℕ → List ℕ
latest_definition [] local = []
latest_definition (item (Define d) ∷ heard) local = if d.local == local then event_block heard (item (Define d)) else latest_definition heard local
latest_definition (x ∷ heard) local = latest_definition heard local

-- the blocks of the messages, in their order, each after that of its definition
abbrev pub message_blocks : List (Event Global) → List (List ℕ × List ℕ)
message_blocks [] = []
message_blocks (item (Data v) ∷ heard) = message_blocks heard ++ (latest_definition heard v.local, event_block heard (item (Data v))) ∷ []
message_blocks (x ∷ heard) = message_blocks heard

-- what a reader of a chain is told of its messages
abbrev pub chain_readings : List (FitFile Global) → List Reading
chain_readings files = flat_map (λ f. readings (reverse f.records)) files

-- The blocks of a chain's messages, each by that of its definition, say just what a reader of the chain is told.
abbrev pub WhatIsSaidWasTold : Type 0
WhatIsSaidWasTold = (files : List (FitFile Global)) (bytes : List ℕ) → IsBytes bytes → IsChain chain_limit files bytes
    → map (λ m. said_reading (form_in m.0) m.1) (message_blocks (chain_heard files)) ≡ chain_readings files

-- ---- some messages of a chain

-- Some elements of a list, in their order.
abbrev pub IsSelection : {X : Type 0} → List X → List X → Type 0
IsSelection [] all = Unit {0}
IsSelection (x ∷ part) [] = ⊥
IsSelection (x ∷ part) (y ∷ all) = ((x ≡ y) × IsSelection part all) ⊎ IsSelection (x ∷ part) all

-- Messages were put after these records, one after another, each by the block of its definition.
abbrev pub PutsInOrder : List (Record Global) → List (Record Global) → List (List ℕ × List ℕ) → Type 0
PutsInOrder before after [] = after ≡ before
PutsInOrder before after (m ∷ messages) =
    (between : List (Record Global)) × IsPut before between (form_in m.0) m.1 × PutsInOrder between after messages

-- These messages in their order, with others among them that describe developer fields.
abbrev pub WithDescriptions : List Reading → List Reading → Type 0
WithDescriptions [] [] = Unit {0}
WithDescriptions (r ∷ part) [] = ⊥
WithDescriptions [] (s ∷ all) = IsDescribing s × WithDescriptions [] all
WithDescriptions (r ∷ part) (s ∷ all) = ((s ≡ r) × WithDescriptions part all) ⊎ (IsDescribing s × WithDescriptions (r ∷ part) all)

-- Where any messages of a chain are put in their order, each is read as a reader of the chain is told it, with messages among them that were
-- added to describe their developer fields; and what was put before them, as it was.
abbrev pub PartsReadAsRead : Type 0
PartsReadAsRead = (files : List (FitFile Global)) (bytes : List ℕ) → IsBytes bytes → IsChain chain_limit files bytes
    → (part : List ((List ℕ × List ℕ) × Reading)) → IsSelection part (zip (message_blocks (chain_heard files)) (chain_readings files))
    → (before after : List (Record Global)) (puts : List Reading) → AllReadAs puts (readings before)
    → PutsInOrder before after (map (λ m. m.0) part)
    → (all : List Reading) × WithDescriptions (map (λ m. m.1) part) all × AllReadAs (puts ++ all) (readings after)

-- ---- a whole chain

-- The block of each event was put: that of a header began a file, and those of definitions and messages were put into it. A file ends where
-- the next begins.
abbrev pub Copies : List (Event Global) → Writing → Type 0
Copies [] w = w ≡ nothing_written
Copies (header h n ∷ heard) w = (before : Writing) × Copies heard before × BeginsFile before w (header_in (event_block heard (header h n)))
Copies (item (Define d) ∷ heard) w =
    (before : Writing) × Copies heard before × PutsDefinition before w (definition_in (event_block heard (item (Define d))))
Copies (item (Data v) ∷ heard) w =
    (before : Writing) × Copies heard before × PutsMessage before w (form_in (latest_definition heard v.local)) (event_block heard (item (Data v)))
Copies (file_end ∷ heard) w = Copies heard w

-- Where all blocks of a chain were put, what is written at the end are the bytes of the chain.
abbrev pub CopiesAreExact : Type 0
CopiesAreExact = (files : List (FitFile Global)) (bytes : List ℕ) → IsBytes bytes → IsChain chain_limit files bytes
    → (w new : Writing) (sink : Channel) → Copies (chain_heard files) w → IsFinished w new sink
    → (new.files ≡ files) × Appends sink.before sink.after bytes

-- All blocks of a chain can be put, and then it has been written.
abbrev pub ChainsCanBeCopied : Type 0
ChainsCanBeCopied = (files : List (FitFile Global)) (bytes : List ℕ) → IsBytes bytes → IsChain chain_limit files bytes
    → (w : Writing) × (new : Writing) × Copies (chain_heard files) w × EndsFile w new × (new.files ≡ files)

-- Why the block of an event isn't put.
abbrev pub IsCopyRefusal : Writing → List (Event Global) → Event Global → Refusal → Type 0
IsCopyRefusal w heard (header h n) why = IsHeaderRefusal w (event_block heard (header h n)) why
IsCopyRefusal w heard (item (Define d)) why = IsDefinitionRefusal w.current (event_block heard (item (Define d))) why
IsCopyRefusal w heard (item (Data v)) why =
    IsMessageRefusal w.current (latest_definition heard v.local) (event_block heard (item (Data v))) why
IsCopyRefusal w heard file_end why = ⊥

-- Where the blocks of a chain were put up to one, the next is refused for want of memory alone.
abbrev pub CopiesAreTaken : Type 0
CopiesAreTaken = (files : List (FitFile Global)) (bytes : List ℕ) → IsBytes bytes → IsChain chain_limit files bytes
    → (later heard : List (Event Global)) (x : Event Global) → chain_heard files ≡ later ++ x ∷ heard → (w : Writing) → Copies heard w
    → (why : Refusal) → IsCopyRefusal w heard x why → why ≡ NoMemory
