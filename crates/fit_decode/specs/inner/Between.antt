-- What holds of a reader of a chain between two files.
use Rattle.std.specs.Prelude.{◌≡◌, ◌↔◌, ℕ, Bool, true, false, List, [], length, Option, None}
use Rattle.fit_record.specs.declared.file.FitFile.{FitFile}
use Rattle.fit_record.specs.Files.{chain_limit, IsViable}
use Rattle.fit_chain.specs.declared.event.Fault.{Fault}
use Rattle.fit_chain.specs.declared.event.Fault.TheVariants.{Truncated}
use Rattle.fit_decode.specs.Answers.{Seen}
use Rattle.fit_chain.specs.Checks.{AreChain}
use Rattle.fit_chain.specs.Progress.{at_header, HasCome}
use Rattle.fit_decode.specs.inner.Turns.{unrefused}

-- The decoder was fed the bytes taken, which are those of these files.
pub record IsAfter {A : Type 0} (files : List (FitFile A)) (decoder : Seen) (count : ℕ) (taken : List ℕ) : Type 0 where
  pub fed : decoder ≡ unrefused taken
  pub counted : count ≡ length taken
  pub viable : IsViable A chain_limit taken
  pub come : HasCome files (at_header []) taken

-- Until a fault the reading is after some files.
abbrev pub ReadsOn : Type 0 → Option Fault → Seen → ℕ → List ℕ → Type 0
ReadsOn A fault decoder count taken = fault ≡ None → (files : List (FitFile A)) × IsAfter files decoder count taken

-- Whether the fault is the input's end after a whole chain.
abbrev pub IsEnd : Type 0 → Seen → Fault → Bool → Type 0
IsEnd A decoder (Truncated place) end = (end ≡ true) ↔ ((decoder.refusal ≡ None) × AreChain A decoder.bytes)
IsEnd A decoder fault end = end ≡ false
