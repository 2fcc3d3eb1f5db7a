-- A step of one kind of row is a step of its record, and which rows can stand where no other kind can.
use Rattle.fit_csv.proofs.Common.{◌≡◌, ◌∙◌, ◌≤◌, [], ◌∷◌, length, take, get_or, refl, sym, ap, subst, inl, inr, arith, IsSomeAnd, Global, Record}
use Rattle.fit_csv.proofs.Common.{Values}
use Rattle.fit_csv.proofs.Common.{Defined, defined_at, known, FieldDef, Items, HasShape, field_row, IsMisfit, head_row, message_row, end_row, CanStandNext}
use Rattle.fit_csv.proofs.Common.{AsFar, row}
use Rattle.fit_csv.proofs.Common.{MayBeOfKind, DefinitionStep, DevDefStep, FieldDefStep, DevStep, FieldStep, MessageStep, with_items, settled, Row}
use Rattle.fit_csv.proofs.Common.{OpenDefinition, OpenFile, Misfit, Part, Nothing}
use Rattle.std.proofs.Common.{◌<◌, List, Option, Some, None}
use Rattle.std.proofs.lemmas.Option.{slice_get_past}
use Rattle.std.specs.Prelude.{codes, ◌⊎◌}
use Rattle.fit_cells.specs.Rows.{Cell}
use Rattle.fit_csv.proofs.Closest.{same-rows}

-- ---- definitions

pub by-field : (o : OpenDefinition) (row : Row) (misfit : Misfit) → length o.fields < o.head.fields
    → IsMisfit (λ r. (p : OpenDefinition) × FieldDefStep o r p) row misfit → IsMisfit (λ r. (p : OpenDefinition) × DefinitionStep o r p) row misfit
by-field o row misfit room =
    same-rows (λ r. (p : OpenDefinition) × FieldDefStep o r p) (λ r. (p : OpenDefinition) × DefinitionStep o r p) row misfit
    (λ other (p, step). (p, inl step))
    (λ other (p, step). elim step [ inl field ↦ (p, field) | inr dev ↦ absurd (omega (arith, room, dev.0)) ])

pub by-dev-field : (o : OpenDefinition) (row : Row) (misfit : Misfit) → o.head.fields ≤ length o.fields
    → IsMisfit (λ r. (p : OpenDefinition) × DevDefStep o r p) row misfit → IsMisfit (λ r. (p : OpenDefinition) × DefinitionStep o r p) row misfit
by-dev-field o row misfit all =
    same-rows (λ r. (p : OpenDefinition) × DevDefStep o r p) (λ r. (p : OpenDefinition) × DefinitionStep o r p) row misfit
    (λ other (p, step). (p, inr step))
    (λ other (p, step). elim step [ inl field ↦ absurd (omega (arith, all, field.0)) | inr dev ↦ (p, dev) ])

-- ---- data messages

abbrev pub BothSteps : List (Record Global) → Defined Global → Values Global → Row → Values Global → Type 0
BothSteps before p v r w = FieldStep p v r w ⊎ DevStep before p v r w

pub by-field-row : (before : List (Record Global)) (p : Defined Global) (v : Values Global) (row : Row) (misfit : Misfit)
    → length v.fields < length p.definition.fields → IsMisfit (λ r. (w : Values Global) × FieldStep p v r w) row misfit
    → IsMisfit (λ r. (w : Values Global) × BothSteps before p v r w) row misfit
by-field-row before p v row misfit room =
    same-rows (λ r. (w : Values Global) × FieldStep p v r w) (λ r. (w : Values Global) × BothSteps before p v r w) row misfit
    (λ other (w, step). (w, inl step))
    (λ other (w, step). elim step [ inl field ↦ (w, field) | inr dev ↦ absurd (omega (arith, room, dev.0)) ])

abbrev NextField : Defined Global → Values Global → Row → Values Global → Option FieldDef → Type 0
NextField p v r w next = IsSomeAnd next (λ f. (i : Items Global) × HasShape f.code f.size i × (r ≡ field_row p.definition.global f i) × (w ≡ with_items v i))

no-field : (p : Defined Global) (v : Values Global) (r : Row) (w : Values Global) → length p.definition.fields ≤ length v.fields → FieldStep p v r w → ⊥
no-field p v r w all step = subst (NextField p v r w) (slice_get_past p.definition.fields (length v.fields) all) step

pub by-dev-row : (before : List (Record Global)) (p : Defined Global) (v : Values Global) (row : Row) (misfit : Misfit)
    → length p.definition.fields ≤ length v.fields → IsMisfit (λ r. (w : Values Global) × DevStep before p v r w) row misfit
    → IsMisfit (λ r. (w : Values Global) × BothSteps before p v r w) row misfit
by-dev-row before p v row misfit all =
    same-rows (λ r. (w : Values Global) × DevStep before p v r w) (λ r. (w : Values Global) × BothSteps before p v r w) row misfit
    (λ other (w, step). (w, inr step))
    (λ other (w, step). elim step [ inl field ↦ absurd (no-field p v other w all field) | inr dev ↦ (w, dev) ])

abbrev StepBy : List (Record Global) → Values Global → Row → Values Global → Option (Defined Global) → Type 0
StepBy before v r w o = IsSomeAnd o (λ p. BothSteps before p v r w)

pub message-step : (before : List (Record Global)) (p : Defined Global) (v : Values Global) (r : Row) (w : Values Global)
    → defined_at (known before) v.local ≡ Some p → BothSteps before p v r w → MessageStep before v r w
message-step before p v r w is step = subst (StepBy before v r w) (sym is) step

pub by-message : (before : List (Record Global)) (p : Defined Global) (v : Values Global) (row : Row) (misfit : Misfit)
    → defined_at (known before) v.local ≡ Some p → IsMisfit (λ r. (w : Values Global) × BothSteps before p v r w) row misfit
    → IsMisfit (λ r. (w : Values Global) × MessageStep before v r w) row misfit
by-message before p v row misfit is =
    same-rows (λ r. (w : Values Global) × BothSteps before p v r w) (λ r. (w : Values Global) × MessageStep before v r w) row misfit
    (λ other (w, step). (w, message-step before p v other w is step))
    (λ other (w, step). (w, subst (StepBy before v other w) is step))

pub none-by-message : (before : List (Record Global)) (v : Values Global) (row other : Row) → defined_at (known before) v.local ≡ None
    → (w : Values Global) × MessageStep before v other w → ⊥
none-by-message before v row other none (w, step) = subst (StepBy before v other w) none step

-- ---- the first row of a record

kind-is : (k : Cell) (row other known_row : Row) → take 1 row ≡ k ∷ [] → take 1 other ≡ take 1 row → other ≡ known_row → k ≡ get_or (take 1 known_row) 0 []
kind-is k row other known_row kind agree e =
    ap (λ (r : Row). get_or r 0 []) (sym kind ∙ sym agree) ∙ ap (λ (r : Row). get_or (take 1 r) 0 []) e

pub no-kind : (before : List (Record Global)) (row : Row) (k : Cell) → take 1 row ≡ k ∷ [] → (k ≡ codes "def" → ⊥) → (k ≡ codes "data" → ⊥)
    → (k ≡ codes "end" → ⊥) → (other : Row) → CanStandNext before Nothing other → MayBeOfKind other row → ⊥
no-kind before row k kind not_def not_data not_end other stands (inr both) = not_data (ap (λ (r : Row). get_or r 0 []) (sym kind ∙ both.1))
no-kind before row k kind not_def not_data not_end other (inl (p, inl head)) (inl agree) =
    not_def (kind-is k row other (head_row head.0) kind agree head.2)
no-kind before row k kind not_def not_data not_end other (inl (p, inr start)) (inl agree) =
    not_data (kind-is k row other (message_row before start.0) kind agree start.2)
no-kind before row k kind not_def not_data not_end other (inr end) (inl agree) = not_end (kind-is k row other end_row kind agree end.1)

-- what has come before of the record doesn't matter
pub settled-afresh : (f : OpenFile) (new : Part) → settled (record f { part = Nothing }) new ≡ settled f new
settled-afresh f Nothing = refl
settled-afresh f part = refl

-- where memory is refused
pub no-memory : (P : Row → Type 0) (row : Row) (misfit other : Misfit) → misfit ≡ other → IsMisfit P row other → IsMisfit P row misfit
no-memory P row misfit other is h = subst (IsMisfit P row) (sym is) h

-- the row in which a file ends is the closest one where there is no other
pub end-closest : (k a b c d e f : Cell) (other : Row) → other ≡ end_row → AsFar other end_row (row k a b c d e f)
end-closest k a b c d e f other is =
    subst (λ (o : Row). AsFar o end_row (row k a b c d e f)) (sym is)
    (λ ek. (ek, λ ea. (ea, λ eb. (eb, λ ec. (ec, λ ed. (ed, λ ee. (ee, λ ef. (ef, tt))))))))
