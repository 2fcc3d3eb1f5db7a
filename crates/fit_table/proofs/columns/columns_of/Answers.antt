use Rattle.std.proofs.Common.{ℕ, slice_index_or, slice_set}
use Rattle.std.proofs.lemmas.Bool.{cases_eq}
use Rattle.std.proofs.lemmas.List.{get_or-set_other, get_or-set_same, length-set}
use Rattle.fit_table.proofs.Common.{◌∙◌, arith, inl, inr, refl, subst, sym, IsColumn}
use Rattle.fit_table.specs.inner.TableColumns.{shown_number}
use Rattle.fit_table.specs.declared.columns.Column.TheVariants.{Absent}
use Rattle.fit_table.proofs.columns.columns_of.Goals as goal

pub loop-place-init : goal.loop-place-init
loop-place-init c = (refl, λ field below. let none : ⊥ = omega (arith, below) in absurd none)

pub loop-place-preserved : goal.loop-place-preserved
loop-place-preserved c =
    let fields = c.args.fields.now in
    let before = c.loop-place.columns in
    let place = c.loop-place.place in
    let column = c.column_of.result in
    let (long, are) = c.loop-place.invariant in (
      length-set before place column ∙ long,
      λ field below. elim (cases_eq field place) [
        | inl same ↦
            subst (λ (n : ℕ). IsColumn fields (shown_number n) (slice_index_or (slice_set before place column) n Absent)) (sym same)
            (subst (IsColumn fields (shown_number place)) (sym (get_or-set_same before place column Absent (omega (arith, long, c.loop-place-test.true))))
            c.column_of.ensures)
        | inr differs ↦
            subst (IsColumn fields (shown_number field)) (sym (get_or-set_other before place field column Absent differs))
            (are field (omega (arith, below, differs)))
      ],
    )

pub returns : goal.returns
returns c = λ field below. c.loop-place.invariant.1 field (omega (arith, below, c.loop-place-test.false))
