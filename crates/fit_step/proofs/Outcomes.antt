-- What one byte more makes of the parts that have come: more parts, a whole record, or a refusal.
use Rattle.fit_step.proofs.Common.{◌≡◌, ◌⊎◌, ℕ, ◌-◌, List, [], ◌∷◌, ◌++◌, Some, None, Ok, Err, Reason, Record, Environment, Fits, record_bytes, record_reason}
use Rattle.fit_step.proofs.Common.{Step, start, RecordPart, part_bytes, IsPart, HasBegun, state_of, IsShut}

-- the bytes are those of more parts, and this much room is left
pub record Goes {A : Type 0} (e : Environment A) (room : ℕ) (bytes : List ℕ) (made : Step A) : Type 0 where
  pub next : RecordPart A
  pub stands : IsPart e next
  pub begun : HasBegun next
  pub spelled : part_bytes e next ≡ bytes
  pub is : made ≡ Ok (state_of room next, None)

-- the bytes are those of a whole record
pub record Completes {A : Type 0} (e : Environment A) (room : ℕ) (bytes : List ℕ) (made : Step A) : Type 0 where
  pub whole : Record A
  pub fits : Fits e whole
  pub spelled : record_bytes e whole ≡ bytes
  pub is : made ≡ Ok (start room, Some whole)

abbrev pub Moves : {A : Type 0} → Environment A → ℕ → List ℕ → Step A → Type 0
Moves e room bytes made = Goes e room bytes made ⊎ Completes e room bytes made

-- b is refused after the bytes, where room counts it, with the reason of its place
pub record Stops {A : Type 0} (e : Environment A) (room : ℕ) (bytes : List ℕ) (b : ℕ) (made : Step A) : Type 0 where
  pub reason : Reason
  pub is : made ≡ Err reason
  pub because : record_reason e bytes room b ≡ Some reason
  pub shut : IsShut e room bytes b reason

abbrev pub Outcome : {A : Type 0} → Environment A → ℕ → List ℕ → ℕ → Step A → Type 0
Outcome e room bytes b made = Moves e (room - 1) (bytes ++ b ∷ []) made ⊎ Stops e room bytes b made
