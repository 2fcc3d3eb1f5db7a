use Rattle.fit_step.proofs.Common.{◌≡◌, ℕ, List, ◌++◌, take, IsInProgress, StandsAfter, state_at, StandsWithRoom}
use Rattle.fit_step.proofs.record_reader.scan_bytes.Given as goal

abbrev pub invariant-loop-i : goal.invariant-loop-i
invariant-loop-i g l = record {
  known : l.env ≡ l.initial.env;
  come : (room : ℕ) (bytes : List ℕ) → IsInProgress l.initial.env room bytes l.initial.position l.initial.in_progress
      → StandsAfter l.env room (bytes ++ take l.i l.piece) (state_at l.position l.in_progress);
  reading : StandsWithRoom l.env (state_at l.position l.in_progress);
}
