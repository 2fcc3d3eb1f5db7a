-- What a decoder makes of a piece. No public contract names these.
use Rattle.std.specs.Prelude.{◌≡◌, ℕ, ◌<◌, ◌≤◌, List, length, Some, None, Result, Err, IfOk}
use Rattle.fit_frame.specs.declared.reason.Reason.{Reason}
use Rattle.fit_chain.specs.declared.event.Fed.{Fed}
use Rattle.fit_chain.specs.declared.event.Fault.{Fault}
use Rattle.fit_chain.specs.declared.event.Fault.TheVariants.{Refused, Truncated, NoMemory, Read}
use Rattle.fit_chain.specs.Events.{Event}
use Rattle.fit_chain.specs.Pieces.{Quiet, Least}
use Rattle.fit_decode.specs.Answers.{Seen, event_of, fed, Refuses, Wants}

-- The clauses of `feed`, but for the last: what it answers for a piece, and what it leaves.
pub record Feeds (A : Type 0) (old : Seen) (piece : List ℕ) (new : Seen) (result : Result (Fed A) Fault) : Type 0 where
  pub latched : (reason : Reason) → old.refusal ≡ Some reason → (result ≡ Err (Refused (length old.bytes) reason)) × (new ≡ old)
  pub used : IfOk result (λ f. (f.used ≤ length piece) × (new ≡ fed old piece f.used))
  pub more : IfOk result (λ f. event_of f.event ≡ None → (f.used ≡ length piece) × Quiet A old.bytes piece f.used)
  pub event : IfOk result (λ f. (x : Event A) → event_of f.event ≡ Some x → (0 < f.used) × Least A old.bytes piece f.used x)
  pub refused : (place : ℕ) (reason : Reason) → old.refusal ≡ None → result ≡ Err (Refused place reason) → Refuses A old piece new place reason
  pub memory : (used : ℕ) → result ≡ Err (NoMemory used) → Wants A old piece new used
  pub others : (place : ℕ) → (result ≡ Err (Truncated place) → ⊥) × (result ≡ Err (Read place) → ⊥)
