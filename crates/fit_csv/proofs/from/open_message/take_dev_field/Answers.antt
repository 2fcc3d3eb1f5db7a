use Rattle.fit_csv.proofs.Common.{◌≡◌, length, refl, sym, subst, slice_get, slice_get_read, err_from_is_err_and, on_ok_weaker, Global, Items, dev_defs, dev_row}
use Rattle.fit_csv.proofs.Common.{IsMisfit, IsDevRow, naming_at, DevStep, row_of}
use Rattle.std.proofs.Common.{Some}
use Rattle.std.specs.Prelude.{List, ℕ}
use Rattle.fit_csv.proofs.ValueSteps.{dev-misfit, dev-step}
use Rattle.fit_csv.proofs.from.open_message.take_dev_field.Goals as goal

pub returns-in_err-items-clause-err : goal.returns-in_err-items-clause-err
returns-in_err-items-clause-err c =
    let p = err_from_is_err_and c.from_residual.result c.from_residual.ensures.1 in
    let l = c.in-Some.ensures.lookup in
    let m = c.in-Some-get.ensures.lookup in
    let next : slice_get (dev_defs c.args.defined.now.definition.dev) (length c.args.values.now.dev) ≡ Some c.in-Some.field.now =
    rw (← c.dev_slice.ensures, ← c.len-place.ensures)
    (slice_get_read c.dev_slice.result.now (length c.dev_slice.result.now) c.len-place.result c.in-Some.field.now refl l.3.0 l.1) in
    let coded : slice_get c.args.defined.now.dev_codes (length c.args.values.now.dev) ≡ Some c.in-Some-get.code.now =
    rw (← c.as_slice.ensures, ← c.len-place.ensures)
    (slice_get_read c.as_slice.result.now (length c.as_slice.result.now) c.len-place.result c.in-Some-get.code.now refl m.3.0 m.1) in
    let err = subst (λ (n : ℕ). IsMisfit (IsDevRow c.in-Some.field.now c.in-Some-get.code.now (naming_at c.args.before.now c.args.values.now.local n))
    (row_of c.args.cells.now) c.in_err-items.field-0.0)
    c.len-place.ensures c.in_err-items.ensures.err in
    rw (p.1, p.2) (dev-misfit c.args.before.now c.args.defined.now c.args.values.now c.in-Some.field.now c.in-Some-get.code.now (row_of c.args.cells.now)
    c.in_err-items.field-0.0 c.requires.all next coded err)

pub returns-clause-ok : goal.returns-clause-ok
returns-clause-ok c =
    let l = c.in-Some.ensures.lookup in
    let m = c.in-Some-get.ensures.lookup in
    let v = c.args.values.now in
    let items = c.in_ok-items.items in
    let next : slice_get (dev_defs c.args.defined.now.definition.dev) (length c.args.values.now.dev) ≡ Some c.in-Some.field.now =
    rw (← c.dev_slice.ensures, ← c.len-place.ensures)
    (slice_get_read c.dev_slice.result.now (length c.dev_slice.result.now) c.len-place.result c.in-Some.field.now refl l.3.0 l.1) in
    let coded : slice_get c.args.defined.now.dev_codes (length c.args.values.now.dev) ≡ Some c.in-Some-get.code.now =
    rw (← c.as_slice.ensures, ← c.len-place.ensures)
    (slice_get_read c.as_slice.result.now (length c.as_slice.result.now) c.len-place.result c.in-Some-get.code.now refl m.3.0 m.1) in
    let row : row_of c.args.cells.now ≡ dev_row c.in-Some.field.now c.in-Some-get.code.now
    (naming_at c.args.before.now c.args.values.now.local (length c.args.values.now.dev)) c.in_ok-items.items =
    subst (λ (n : ℕ). row_of c.args.cells.now
    ≡ dev_row c.in-Some.field.now c.in-Some-get.code.now (naming_at c.args.before.now c.args.values.now.local n) c.in_ok-items.items) c.len-place.ensures
    c.in_ok-items.ensures.ok in
    let step = dev-step c.args.before.now c.args.defined.now v c.in-Some.field.now c.in-Some-get.code.now (row_of c.args.cells.now) items c.requires.all next
    coded c.in_ok-items.ensures.shape row in
    on_ok_weaker c.add.result
    (λ e. subst (λ (dev : List (Items Global)).
    DevStep c.args.before.now c.args.defined.now c.args.values.now (row_of c.args.cells.now) (record c.args.values.now { dev = dev })) (sym e) step)
    c.add.ensures.ok
