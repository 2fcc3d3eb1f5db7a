-- One more row of a data message.
use Rattle.fit_csv.proofs.Common.{◌≡◌, length, refl, sym, subst, IsSomeAnd, slice_get, Global, Items, HasShape, DevDef, FieldDef, Defined, Record, Values}
use Rattle.fit_csv.proofs.Common.{dev_defs, dev_row, field_row, IsMisfit, IsDevRow, IsFieldRow, naming_at, DevStep, FieldStep, with_dev_items, with_items, Row}
use Rattle.fit_csv.proofs.Common.{Misfit}
use Rattle.std.proofs.Common.{ℕ, List, Option, Some}
use Rattle.fit_csv.proofs.Closest.{same-rows}

-- the row of the next field
abbrev FieldStepAt : Defined Global → Values Global → Row → Values Global → Option FieldDef → Type 0
FieldStepAt p v r w next = IsSomeAnd next (λ f. (i : Items Global) × HasShape f.code f.size i × (r ≡ field_row p.definition.global f i) × (w ≡ with_items v i))

pub field-step : (p : Defined Global) (v : Values Global) (f : FieldDef) (r : Row) (i : Items Global) → slice_get p.definition.fields (length v.fields) ≡ Some f
    → HasShape f.code f.size i
    → r ≡ field_row p.definition.global f i → FieldStep p v r (with_items v i)
field-step p v f r i next shape e = subst (FieldStepAt p v r (with_items v i)) (sym next) (i, shape, e, refl)

pub field-misfit : (p : Defined Global) (v : Values Global) (f : FieldDef) (row : Row) (misfit : Misfit)
    → slice_get p.definition.fields (length v.fields) ≡ Some f
    → IsMisfit (IsFieldRow p.definition.global f) row misfit → IsMisfit (λ r. (w : Values Global) × FieldStep p v r w) row misfit
field-misfit p v f row misfit next =
    same-rows (IsFieldRow p.definition.global f) (λ r. (w : Values Global) × FieldStep p v r w) row misfit
    (λ other (i, shape, e). (with_items v i, field-step p v f other i next shape e))
    (λ other (w, step). let s = subst (FieldStepAt p v other w) next step in (s.0, s.1, s.2))

-- the row of the next developer field
abbrev DevStepAt : List (Record Global) → Values Global → Row → Values Global → Option DevDef → Option ℕ → Type 0
DevStepAt before v r w next code =
    IsSomeAnd next (λ f. IsSomeAnd code (λ n.
    (i : Items Global) × HasShape n f.size i × (r ≡ dev_row f n (naming_at before v.local (length v.dev)) i) × (w ≡ with_dev_items v i)))

pub dev-step : (before : List (Record Global)) (p : Defined Global) (v : Values Global) (f : DevDef) (code : ℕ) (r : Row) (i : Items Global)
    → length v.fields ≡ length p.definition.fields
    → slice_get (dev_defs p.definition.dev) (length v.dev) ≡ Some f → slice_get p.dev_codes (length v.dev) ≡ Some code → HasShape code f.size i
    → r ≡ dev_row f code (naming_at before v.local (length v.dev)) i → DevStep before p v r (with_dev_items v i)
dev-step before p v f code r i all next coded shape e = (
  all,
  subst (λ n. DevStepAt before v r (with_dev_items v i) n (slice_get p.dev_codes (length v.dev))) (sym next)
      (subst (λ n. DevStepAt before v r (with_dev_items v i) (Some f) n) (sym coded) (i, shape, e, refl)),
)

pub dev-misfit : (before : List (Record Global)) (p : Defined Global) (v : Values Global) (f : DevDef) (code : ℕ) (row : Row) (misfit : Misfit)
    → length v.fields ≡ length p.definition.fields
    → slice_get (dev_defs p.definition.dev) (length v.dev) ≡ Some f → slice_get p.dev_codes (length v.dev) ≡ Some code
    → IsMisfit (IsDevRow f code (naming_at before v.local (length v.dev))) row misfit → IsMisfit (λ r. (w : Values Global) × DevStep before p v r w) row misfit
dev-misfit before p v f code row misfit all next coded =
    same-rows (IsDevRow f code (naming_at before v.local (length v.dev))) (λ r. (w : Values Global) × DevStep before p v r w) row misfit
    (λ other (i, shape, e). (with_dev_items v i, dev-step before p v f code other i all next coded shape e))
    (λ other (w, step).
    let s = subst (λ n. DevStepAt before v other w (Some f) n) coded
    (subst (λ n. DevStepAt before v other w n (slice_get p.dev_codes (length v.dev))) next step.1) in
    (s.0, s.1, s.2))
