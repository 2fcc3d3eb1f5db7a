-- Rows of definition messages.
use Rattle.fit_csv.proofs.Common.{◌≡◌, length, refl, Row, IsCellFault, IsMisfit, IsRowOfThree, IsDevDefRow, IsFieldDefRow, DevDefStep, FieldDefStep}
use Rattle.fit_csv.proofs.Common.{with_dev_field, with_field, OpenDefinition, Misfit}
use Rattle.std.proofs.Common.{◌<◌}
use Rattle.std.specs.Prelude.{codes}
use Rattle.fit_csv.proofs.Closest.{cell-fault, of-kind}

-- the row of a field is one of three numbers
pub field_def-misfit : (row : Row) (misfit : Misfit) → IsCellFault (IsRowOfThree (codes "fdef")) row misfit → IsCellFault IsFieldDefRow row misfit
field_def-misfit row misfit =
    of-kind (IsRowOfThree (codes "fdef")) IsFieldDefRow row misfit
    (λ other (a, b, c, ha, hb, hc, e). (record { number = a; size = b; code = c }, record { number = ha; size = hb; code = hc }, e))
    (λ other (f, h, e) k. (f.number, f.size, f.code, h.number, h.size, h.code, e))

-- so is that of a developer field
pub dev_def-misfit : (row : Row) (misfit : Misfit) → IsCellFault (IsRowOfThree (codes "ddef")) row misfit → IsCellFault IsDevDefRow row misfit
dev_def-misfit row misfit =
    of-kind (IsRowOfThree (codes "ddef")) IsDevDefRow row misfit
    (λ other (a, b, c, ha, hb, hc, e). (record { number = a; size = b; index = c }, record { number = ha; size = hb; index = hc }, e))
    (λ other (f, h, e) k. (f.number, f.size, f.index, h.number, h.size, h.index, e))

-- the row of a field can stand after those before it
pub field_def-step : (o : OpenDefinition) (row : Row) (misfit : Misfit) → length o.fields < o.head.fields → IsCellFault IsFieldDefRow row misfit
    → IsMisfit (λ r. (p : OpenDefinition) × FieldDefStep o r p) row misfit
field_def-step o row misfit room h =
    cell-fault (λ r. (p : OpenDefinition) × FieldDefStep o r p) row misfit (of-kind IsFieldDefRow (λ r. (p : OpenDefinition) × FieldDefStep o r p) row misfit
    (λ other (f, range, e). (with_field o f, (room, (f, range, e, refl))))
    (λ other (p, (room, (f, range, e, is))) k. (f, range, e)) h)

-- so can that of a developer field
pub dev_def-step : (o : OpenDefinition) (row : Row) (misfit : Misfit) → length o.fields ≡ o.head.fields → IsCellFault IsDevDefRow row misfit
    → IsMisfit (λ r. (p : OpenDefinition) × DevDefStep o r p) row misfit
dev_def-step o row misfit all h =
    cell-fault (λ r. (p : OpenDefinition) × DevDefStep o r p) row misfit (of-kind IsDevDefRow (λ r. (p : OpenDefinition) × DevDefStep o r p) row misfit
    (λ other (f, range, e). (with_dev_field o f, (all, (f, range, e, refl))))
    (λ other (p, (all, (f, range, e, is))) k. (f, range, e)) h)
