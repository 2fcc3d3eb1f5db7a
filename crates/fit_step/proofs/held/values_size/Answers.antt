use Rattle.fit_step.proofs.Common.{◌∙◌, ap, arith, items_in, length, refl}
use Rattle.fit_step.proofs.held.values_size.Goals as goal

pub overflow_add-result : goal.overflow_add-result
overflow_add-result g c = omega (arith, c.requires, ap length c.as_slice-fields.ensures, ap length c.as_slice-dev.ensures)

pub overflow_add-result-2 : goal.overflow_add-result-2
overflow_add-result-2 g c =
    let fields = c.as_slice-fields.ensures in
    omega (arith, c.requires, ap length fields, ap length c.as_slice-dev.ensures, c.items_in.ensures ∙ ap items_in fields)

pub overflow_add-result-3 : goal.overflow_add-result-3
overflow_add-result-3 g c =
    let fields = c.as_slice-fields.ensures in
    let dev = c.as_slice-dev.ensures in
    omega (arith, c.requires, ap length fields, ap length dev, c.items_in.ensures ∙ ap items_in fields, c.items_in-2.ensures ∙ ap items_in dev)

pub returns : goal.returns
returns g c = rw (c.items_in.ensures, c.items_in-2.ensures, c.as_slice-fields.ensures, c.as_slice-dev.ensures) refl
