use Rattle.fit_rows.proofs.Common.{map, subst, HasRows, dev_def_row, field_def_row, rows_both}
use Rattle.fit_rows.proofs.definition.put_definition.Goals as goal

pub returns : goal.returns
returns c =
    let fields = subst (λ fs. HasRows (map field_def_row fs) c.put_def_row.new.text c.put_field_defs.new.text) c.as_slice.ensures c.in_ok-put_field_defs.ensures
    in
    let dev = subst (λ fs. HasRows (map dev_def_row fs) c.put_field_defs.new.text c.put_dev_defs.new.text) c.dev_slice.ensures c.in_ok-put_dev_defs.ensures in
    rows_both (rows_both c.in_ok-put_def_row.ensures fields) dev
