-- Where a record begins, and six bytes or more are to come, a record can be read.
use Rattle.fit_step.proofs.Common.{◌≡◌, ◌≤◌, [], length, arith, None, Environment, Position, Begins}
use Rattle.fit_step.proofs.RecordsInProgress.{begins_record}
use Rattle.fit_step.proofs.SkippedRecords.{large_fill}
use Rattle.fit_step.specs.InProgress.{AwaitsByte}

pub record_awaited : {A : Type 0} (e : Environment A) (p : Position) → length e.places ≡ 16 → Begins p → 6 ≤ p.room → AwaitsByte e p None
record_awaited e p sixteen begins large =
    (p.room, [], omega (arith, large), begins_record e p sixteen begins (large_fill e p.room sixteen large))
