-- Messages of one definition that are put one after another, and why a run of their blocks stops.
use Rattle.std.specs.Prelude.{◌≡◌, ◌⊎◌, Bool, ℕ, List, [], ◌∷◌, ◌++◌, length, map, Option, Some, None, IsSomeAnd}
use Rattle.fit_from_messages.specs.Alone.{why_no_lone_definition}
use Rattle.fit_from_messages.specs.SaysChain.{IsBlock, joined_blocks}
use Rattle.fit_from_messages.specs.declared.fault.BlockReason.TheVariants.{Cut}
use Rattle.fit_writer.specs.Reading.{Form, form_in}
use Rattle.fit_writer.specs.Amounts.{Amounts, AreLatest, SameFirst, amounts_by, has_amounts}
use Rattle.fit_writer.specs.Written.{Current, IsMessageRefusal, KeepsAll, PutsMessage, Writing}
use Rattle.fit_writer.specs.declared.done.Run.{Run}
use Rattle.fit_writer.specs.declared.refusal.Refusal.{Refusal}
use Rattle.fit_writer.specs.declared.refusal.Refusal.TheVariants.{NoFile, Block, Message, NoMemory}
use Rattle.fit_writer.specs.declared.refusal.RunRefusal.{RunRefusal}

-- The message of each block was put after those before it, and a reader is told these amounts of each.
abbrev pub PutsEach : Writing → Writing → Form → List (List ℕ) → List Amounts → Type 0
PutsEach old new form [] [] = new ≡ old
PutsEach old new form (block ∷ blocks) (a ∷ read) =
    IsBlock block × (between : Writing) × PutsMessage old between form block × AreLatest between a × PutsEach between new form blocks read
PutsEach old new form _ _ = ⊥

-- The bytes begin with that many blocks, up to this place, and their messages were put. Of so many first ones a reader is told the amounts
-- that their blocks say, and not of the next.
pub record PutsRun (old new : Writing) (form : Form) (has : Bool) (bytes : List ℕ) (count accumulated place : ℕ) (rest : List ℕ) : Type 0 where
  pub blocks : List (List ℕ)
  pub are_joined : bytes ≡ joined_blocks blocks ++ rest
  pub counted : count ≡ length blocks
  pub at : place ≡ length (joined_blocks blocks)
  pub read : List Amounts
  pub put : PutsEach old new form blocks read
  pub told : SameFirst read (map (amounts_by has) blocks) accumulated

-- A file has begun, the definition stands, and the bytes are the blocks of that many messages, which were put.
abbrev pub PutsMessages : Writing → Writing → List ℕ → List ℕ → Run → Type 0
PutsMessages old new definition bytes run =
    IsSomeAnd old.current (λ f. why_no_lone_definition definition ≡ None)
    × PutsRun old new (form_in definition) (has_amounts definition) bytes run.count run.accumulated (length bytes) []

-- A definition can't stand, or memory was refused.
abbrev pub IsUnreadDefinition : List ℕ → Refusal → Type 0
IsUnreadDefinition definition (Block reason) = why_no_lone_definition definition ≡ Some reason
IsUnreadDefinition definition NoMemory = Unit {0}
IsUnreadDefinition definition _ = ⊥

-- No message of this definition can be put, whatever its block: no file has begun, or the definition can't be read.
abbrev pub IsRunBarred : Option Current → List ℕ → Refusal → Type 0
IsRunBarred None definition NoFile = Unit {0}
IsRunBarred None definition _ = ⊥
IsRunBarred (Some f) definition why = IsUnreadDefinition definition why

-- The bytes, one at least, begin with no block; or the message of the block with which they begin is refused, as it is alone.
abbrev pub IsNextRefused : Writing → Writing → List ℕ → List ℕ → Refusal → Type 0
IsNextRefused old new definition rest why =
    ((rest ≡ [] → ⊥) × ((block more : List ℕ) → rest ≡ block ++ more → IsBlock block → ⊥) × (why ≡ Message Cut) × (new ≡ old))
    ⊎ ((block : List ℕ) × (more : List ℕ) × IsBlock block × (rest ≡ block ++ more) × IsMessageRefusal old.current definition block why
    × KeepsAll old new (form_in definition) block why)

-- After some messages of a run the next isn't put.
pub record StopsAfter (old new : Writing) (definition bytes : List ℕ) (stop : RunRefusal) : Type 0 where
  pub between : Writing
  pub rest : List ℕ
  pub stands : why_no_lone_definition definition ≡ None
  pub run : PutsRun old between (form_in definition) (has_amounts definition) bytes stop.count stop.accumulated stop.place rest
  pub next : IsNextRefused between new definition rest stop.refusal

-- A run stopped before the first block, and nothing has changed; or at this block.
abbrev pub StopsRun : Writing → Writing → List ℕ → List ℕ → RunRefusal → Type 0
StopsRun old new definition bytes stop =
    ((new ≡ old) × (stop.count ≡ 0) × (stop.accumulated ≡ 0) × (stop.place ≡ 0) × IsRunBarred old.current definition stop.refusal)
    ⊎ StopsAfter old new definition bytes stop
