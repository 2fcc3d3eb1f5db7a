use Rattle.fit_rows.proofs.Common.{field_def_row, rows_more, rows_none}
use Rattle.fit_rows.proofs.definition.put_field_defs.Goals as goal

pub loop-field-init : goal.loop-field-init
loop-field-init c = rows_none c.args.text.now

pub loop-field-preserved : goal.loop-field-preserved
loop-field-preserved c =
    rows_more field_def_row c.args.fields.now c.loop-field.field-index _ c.args.text.now c.loop-field.text c.put_numbers.new.text c.loop-field-test.true
    c.loop-field.invariant c.in_ok-put_numbers.ensures
