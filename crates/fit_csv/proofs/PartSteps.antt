-- One more row of a record.
use Rattle.fit_csv.proofs.Common.{◌≡◌, ◌∙◌, [], ◌∷◌, take, get_or, arith, refl, sym, ap, inl, inr, Global, Record, Values, end_row, Agree, IsCellFault}
use Rattle.fit_csv.proofs.Common.{IsHeadRow, IsMessageOrEnd, IsMisfit, head_row, message_row, CanStandNext, DefinitionStep, MessageStep, opened, Row}
use Rattle.fit_csv.proofs.Common.{OpenDefinition, Misfit, Nothing, Definition}
use Rattle.std.proofs.Common.{ℕ, List}
use Rattle.std.specs.Prelude.{codes}
use Rattle.fit_cells.specs.Rows.{Cell}
use Rattle.fit_csv.specs.declared.from.open_file.Part.TheVariants.{Message}
use Rattle.fit_csv.proofs.Closest.{cell-fault, of-kind, same-rows}

-- the second letter of the first cell
abbrev pub letter : Row → ℕ
letter r = get_or (get_or r 0 []) 1 0

-- the second letter of a row's kind, by that of another one
pub letters : (other row known : Row) (word : Cell) → Agree 1 other row → take 1 row ≡ word ∷ [] → other ≡ known → letter (take 1 known) ≡ letter (word ∷ [])
letters other row known word e kind is = ap (λ (r : Row). letter (take 1 r)) (sym is) ∙ ap letter e ∙ ap letter kind

pub head-misfit : (before : List (Record Global)) (row : Row) (misfit : Misfit) → take 1 row ≡ codes "def" ∷ [] → IsCellFault IsHeadRow row misfit
    → IsMisfit (CanStandNext before Nothing) row misfit
head-misfit before row misfit kind h =
    cell-fault (CanStandNext before Nothing) row misfit (of-kind IsHeadRow (CanStandNext before Nothing) row misfit
    (λ other (d, range, e). inl (Definition (opened d), inl (d, range, e, refl)))
    (λ other stands e. elim stands [
      | inl step ↦ elim step.1 [
        | inl head ↦ (head.0, head.1, head.2)
        | inr start ↦ absurd (omega (arith, letters other row (message_row before start.0) (codes "def") e kind start.2))
      ]
      | inr end ↦ absurd (omega (arith, letters other row end_row (codes "def") e kind end.1))
    ]) h)

pub message-misfit : (before : List (Record Global)) (row : Row) (misfit : Misfit) → take 1 row ≡ codes "data" ∷ []
    → IsCellFault (IsMessageOrEnd before) row misfit
    → IsMisfit (CanStandNext before Nothing) row misfit
message-misfit before row misfit kind h =
    cell-fault (CanStandNext before Nothing) row misfit (of-kind (IsMessageOrEnd before) (CanStandNext before Nothing) row misfit
    (λ other stands. elim stands [
      | inl message ↦ inl (Message message.0, inr (message.0, message.1, message.2, refl))
      | inr end ↦ inr (refl, end)
    ])
    (λ other stands e. elim stands [
      | inl step ↦ elim step.1 [
        | inl head ↦ absurd (omega (arith, letters other row (head_row head.0) (codes "data") e kind head.2))
        | inr start ↦ inl (start.0, start.1, start.2)
      ]
      | inr end ↦ inr end.1
    ]) h)

pub definition-misfit : (before : List (Record Global)) (o : OpenDefinition) (row : Row) (misfit : Misfit)
    → IsMisfit (λ r. (q : OpenDefinition) × DefinitionStep o r q) row misfit
    → IsMisfit (CanStandNext before (Definition o)) row misfit
definition-misfit before o row misfit =
    same-rows (λ r. (q : OpenDefinition) × DefinitionStep o r q) (CanStandNext before (Definition o)) row misfit
    (λ other (q, step). inl (Definition q, (q, step, refl)))
    (λ other stands. elim stands [
      | inl step ↦ (step.1.0, step.1.1)
      | inr end ↦ let e = end.0 in cc
    ])

pub values-misfit : (before : List (Record Global)) (v : Values Global) (row : Row) (misfit : Misfit)
    → IsMisfit (λ r. (w : Values Global) × MessageStep before v r w) row misfit
    → IsMisfit (CanStandNext before (Message v)) row misfit
values-misfit before v row misfit =
    same-rows (λ r. (w : Values Global) × MessageStep before v r w) (CanStandNext before (Message v)) row misfit
    (λ other (w, step). inl (Message w, (w, step, refl)))
    (λ other stands. elim stands [
      | inl step ↦ (step.1.0, step.1.1)
      | inr end ↦ let e = end.0 in cc
    ])
