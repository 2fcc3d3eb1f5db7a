-- Messages that are put one after another into a file. No public contract names these.
use Rattle.std.specs.Prelude.{◌≡◌, ◌⊎◌, ◌+◌, ◌≤◌, Bool, ℕ, List, [], ◌∷◌, ◌++◌, length, map}
use Rattle.fit_from_messages.specs.Alone.{why_no_message_at}
use Rattle.fit_from_messages.specs.SaysChain.{IsBlock, joined_blocks}
use Rattle.fit_from_messages.specs.declared.fault.BlockReason.TheVariants.{Cut}
use Rattle.fit_writer.specs.Reading.{Form}
use Rattle.fit_writer.specs.Amounts.{Amounts, SameFirst, amounts_by, latest_amounts}
use Rattle.fit_writer.specs.declared.file.OpenFile.{OpenFile}
use Rattle.fit_writer.specs.declared.refusal.Refusal.{Refusal}
use Rattle.fit_writer.specs.declared.refusal.Refusal.TheVariants.{Message}
use Rattle.fit_writer.specs.declared.refusal.RunRefusal.{RunRefusal}
use Rattle.fit_writer.specs.inner.OpenFiles.{current_of}
use Rattle.fit_writer.specs.inner.Puts.{IsHalfPutInto, IsPutInto, IsRefusedPut}

-- The message of each block was put into the file, and a reader is told these amounts of each.
abbrev pub PutsEachInto : OpenFile → OpenFile → Form → List (List ℕ) → List Amounts → Type 0
PutsEachInto old new form [] [] = current_of new ≡ current_of old
PutsEachInto old new form (block ∷ blocks) (a ∷ read) =
    IsBlock block × (between : OpenFile) × IsPutInto old between form block × (latest_amounts between.stream ≡ a) × PutsEachInto between new form blocks read
PutsEachInto old new form _ _ = ⊥

-- Those of that many blocks, up to this place; of so many first ones a reader is told the amounts that their blocks say.
pub record HasRunInto (old new : OpenFile) (form : Form) (has : Bool) (bytes : List ℕ) (count accumulated : ℕ) (rest : List ℕ) : Type 0 where
  pub blocks : List (List ℕ)
  pub are_joined : bytes ≡ joined_blocks blocks ++ rest
  pub counted : count ≡ length blocks
  pub few : count + length rest ≤ length bytes
  pub read : List Amounts
  pub put : PutsEachInto old new form blocks read
  pub told : SameFirst read (map (amounts_by has) blocks) accumulated

-- The bytes, one at least, begin with no block; or the message of the block with which they begin isn't put.
abbrev pub IsFirstRefused : OpenFile → OpenFile → Form → List ℕ → Refusal → Type 0
IsFirstRefused old new form rest why =
    ((rest ≡ [] → ⊥) × ((block more : List ℕ) → rest ≡ block ++ more → IsBlock block → ⊥) × (why ≡ Message Cut) × (current_of new ≡ current_of old))
    ⊎ ((block : List ℕ) × (more : List ℕ) × IsBlock block × (rest ≡ block ++ more)
    × IsRefusedPut old.stream form block (why_no_message_at block form.slots) why × IsHalfPutInto old new form block why)

-- Some were put, and the next isn't.
pub record IsRunStopped (old new : OpenFile) (form : Form) (has : Bool) (bytes : List ℕ) (stop : RunRefusal) : Type 0 where
  pub between : OpenFile
  pub rest : List ℕ
  pub run : HasRunInto old between form has bytes stop.count stop.accumulated rest
  pub at : length bytes ≡ stop.place + length rest
  pub next : IsFirstRefused between new form rest stop.refusal
