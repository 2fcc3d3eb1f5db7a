-- The rows of fields and of developer fields, by the rows of values.
use Rattle.fit_csv.proofs.Common.{◌≡◌, ◌∙◌, [], ◌∷◌, take, get_or, refl, sym, ap, arith, inl, inr, option_and_then, Global, Items, FieldDef, DevDef, Naming}
use Rattle.fit_csv.proofs.Common.{nameless, Meaning, field, cell, row, field_row, dev_row, Row, IsCellFault, IsMisfit, IsFieldRow, IsDevRow, IsValueRow}
use Rattle.fit_csv.proofs.Common.{MayBeOfKind}
use Rattle.fit_csv.proofs.Common.{Misfit}
use Rattle.std.proofs.Common.{ℕ, Option, Some, None}
use Rattle.std.specs.Prelude.{codes, unwrap_or}
use Rattle.fit_cells.specs.Rows.{Cell}
use Rattle.fit_profile.specs.Names.{field_label}
use Rattle.fit_texts.specs.Words.{dev_label, unit_text}
use Rattle.fit_csv.proofs.Closest.{cell-fault, of-kind}
use Rattle.fit_csv.proofs.SevenCells.{same-cells}

module _ (global : ℕ) (f : FieldDef) (kind label unit : Cell) (info : Option Meaning) (is_field : kind ≡ codes "field")
    (labelled : label ≡ field_label global f.number) (known : info ≡ field global f.number) (measured : unit ≡ unit_text info) where
  pub field-shown : (i : Items Global) → row kind label (cell f.code info i) unit [] [] [] ≡ field_row global f i
  field-shown i = same-cells is_field labelled (ap (λ m. cell f.code m i) known) (measured ∙ ap unit_text known) refl refl refl

  pub field-fault : (r : Row) (misfit : Misfit) → IsCellFault (IsValueRow kind label f.code f.size info unit) r misfit → IsMisfit (IsFieldRow global f) r misfit
  field-fault r misfit h =
      cell-fault (IsFieldRow global f) r misfit (of-kind (IsValueRow kind label f.code f.size info unit) (IsFieldRow global f) r misfit
      (λ other (i, shape, e). (i, shape, e ∙ field-shown i)) (λ other (i, shape, e) agree. (i, shape, e ∙ sym (field-shown i))) h)

module _ (f : DevDef) (code : ℕ) (n : Naming) (kind label unit : Cell) (is_dev : kind ≡ codes "dev") (labelled : label ≡ dev_label f n)
    (measured : unit ≡ unwrap_or n.unit []) where
  pub dev-shown : (i : Items Global) → row kind label (cell code None i) unit [] [] [] ≡ dev_row f code n i
  dev-shown i = same-cells is_dev labelled refl measured refl refl refl

  pub dev-fault : (r : Row) (misfit : Misfit) → IsCellFault (IsValueRow kind label code f.size None unit) r misfit → IsMisfit (IsDevRow f code n) r misfit
  dev-fault r misfit h =
      cell-fault (IsDevRow f code n) r misfit (of-kind (IsValueRow kind label code f.size None unit) (IsDevRow f code n) r misfit
      (λ other (i, shape, e). (i, shape, e ∙ dev-shown i)) (λ other (i, shape, e) agree. (i, shape, e ∙ sym (dev-shown i))) h)

-- what is said of a developer field that has no description
pub named : (o : Option Naming) (other : Cell) → unwrap_or (option_and_then (λ t. t.name) o) other ≡ unwrap_or (unwrap_or o nameless).name other
named None other = refl
named (Some t) other = refl

pub measured_by : (o : Option Naming) → unwrap_or (option_and_then (λ t. t.unit) o) [] ≡ unwrap_or (unwrap_or o nameless).unit []
measured_by None = refl
measured_by (Some t) = refl

-- ---- rows of another kind

kind-of : (k : Cell) (r other known_row : Row) → take 1 r ≡ k ∷ [] → take 1 other ≡ take 1 r → other ≡ known_row → k ≡ get_or (take 1 known_row) 0 []
kind-of k r other known_row kind agree e =
    ap (λ (l : Row). get_or l 0 []) (sym kind ∙ sym agree) ∙ ap (λ (l : Row). get_or (take 1 l) 0 []) e

abbrev first-letter : Row → ℕ
first-letter r = get_or (get_or r 0 []) 0 0

pub no-field-row : (global : ℕ) (f : FieldDef) (r : Row) (k : Cell) → take 1 r ≡ k ∷ [] → (k ≡ codes "field" → ⊥) → (other : Row) → IsFieldRow global f other
    → MayBeOfKind other r → ⊥
no-field-row global f r k kind differs other (i, shape, e) (inl agree) = differs (kind-of k r other (field_row global f i) kind agree e)
no-field-row global f r k kind differs other (i, shape, e) (inr both) =
    let letter : first-letter (take 1 (field_row global f i)) ≡ first-letter (codes "end" ∷ []) =
    ap (λ (l : Row). first-letter (take 1 l)) (sym e) ∙ ap first-letter both.0 in
    omega (arith, letter)

pub no-dev-row : (f : DevDef) (code : ℕ) (n : Naming) (r : Row) (k : Cell) → take 1 r ≡ k ∷ [] → (k ≡ codes "dev" → ⊥) → (other : Row)
    → IsDevRow f code n other → MayBeOfKind other r → ⊥
no-dev-row f code n r k kind differs other (i, shape, e) (inl agree) = differs (kind-of k r other (dev_row f code n i) kind agree e)
no-dev-row f code n r k kind differs other (i, shape, e) (inr both) =
    let letter : first-letter (take 1 (dev_row f code n i)) ≡ first-letter (codes "end" ∷ []) =
    ap (λ (l : Row). first-letter (take 1 l)) (sym e) ∙ ap first-letter both.0 in
    omega (arith, letter)
