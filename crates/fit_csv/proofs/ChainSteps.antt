-- One more row of a chain.
use Rattle.fit_csv.proofs.Common.{◌≡◌, [], ◌∷◌, length, take, arith, refl, sym, subst, inl, inr, Global, Record, chain_limit, Agree, IsCellFault, IsMisfit}
use Rattle.fit_csv.proofs.Common.{head_row, message_row, IsEndRow, IsFileRow, CanStandNext, ChainStep, OpenStep, PartStep, file_begun, settled, with_file, Row}
use Rattle.fit_csv.proofs.Common.{Chain, Misfit, OpenFile, Part, Nothing}
use Rattle.std.proofs.Common.{◌<◌, List, Option, Some, None}
use Rattle.std.specs.Prelude.{codes}
use Rattle.fit_csv.proofs.Closest.{cell-fault, of-kind, same-rows}
use Rattle.fit_csv.proofs.PartSteps.{letters}

-- the row can stand there
abbrev pub CanStep : Chain → Row → Type 0
CanStep c r = (t : Chain) × ChainStep c r t

step-at : (c : Chain) (m : Option OpenFile) (r : Row) (t : Chain) → c.current ≡ m → OpenStep c m r t → ChainStep c r t
step-at c m r t is step = subst (λ n. OpenStep c n r t) (sym is) step

from-step : (c : Chain) (m : Option OpenFile) (r : Row) (t : Chain) → c.current ≡ m → ChainStep c r t → OpenStep c m r t
from-step c m r t is step = subst (λ n. OpenStep c n r t) is step

pub begin-misfit : (c : Chain) (row : Row) (misfit : Misfit) → c.current ≡ None → length c.files < chain_limit → IsCellFault IsFileRow row misfit
    → IsMisfit (CanStep c) row misfit
begin-misfit c row misfit none room h =
    cell-fault (CanStep c) row misfit (of-kind IsFileRow (CanStep c) row misfit
    (λ other (d, range, e). (
      record c { current = Some (file_begun d) },
      step-at c None other (record c { current = Some (file_begun d) }) none (room, (d, range, e, refl)),
    ))
    (λ other (t, step) agree. let s = from-step c None other t none step in (s.1.0, s.1.1, s.1.2)) h)

-- no record begins with a row in which a file ends
pub not-end : (before : List (Record Global)) (row other : Row) (p : Part) → take 1 row ≡ codes "end" ∷ [] → Agree 1 other row → PartStep before Nothing other p
    → ⊥
not-end before row other p kind agree (inl (h, range, e, is)) = omega (arith, letters other row (head_row h) (codes "end") agree kind e)
not-end before row other p kind agree (inr (v, start, e, is)) = omega (arith, letters other row (message_row before v) (codes "end") agree kind e)

pub end-misfit : (c : Chain) (f : OpenFile) (row : Row) (misfit : Misfit) → c.current ≡ Some f → f.part ≡ Nothing → take 1 row ≡ codes "end" ∷ []
    → IsCellFault IsEndRow row misfit
    → IsMisfit (CanStep c) row misfit
end-misfit c f row misfit some none kind h =
    cell-fault (CanStep c) row misfit (of-kind IsEndRow (CanStep c) row misfit
    (λ other e. (with_file c f, step-at c (Some f) other (with_file c f) some (inl (none, e, refl))))
    (λ other (t, step) agree. elim (from-step c (Some f) other t some step) [
      | inl end ↦ end.1
      | inr more ↦ absurd (not-end f.before row other more.1.0 kind agree (subst (λ (part : Part). PartStep f.before part other more.1.0) none more.1.1))
    ]) h)

pub current-misfit : (c : Chain) (f : OpenFile) (row : Row) (misfit : Misfit) → c.current ≡ Some f → IsMisfit (CanStandNext f.before f.part) row misfit
    → IsMisfit (CanStep c) row misfit
current-misfit c f row misfit some =
    same-rows (CanStandNext f.before f.part) (CanStep c) row misfit
    (λ other goes. elim goes [
      | inl step ↦ (
        record c { current = Some (settled f step.0) },
        step-at c (Some f) other (record c { current = Some (settled f step.0) }) some (inr (settled f step.0, (step.0, step.1, refl), refl)),
      )
      | inr end ↦ (with_file c f, step-at c (Some f) other (with_file c f) some (inl (end.0, end.1, refl)))
    ])
    (λ other (t, step). elim (from-step c (Some f) other t some step) [
      | inl end ↦ inr (end.0, end.1)
      | inr more ↦ inl (more.1.0, more.1.1)
    ])
