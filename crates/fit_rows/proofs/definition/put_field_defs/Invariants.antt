use Rattle.fit_rows.proofs.Common.{map, take, HasRows, field_def_row}
use Rattle.fit_rows.proofs.definition.put_field_defs.Given as goal

abbrev pub invariant-loop-field : goal.invariant-loop-field
invariant-loop-field l = HasRows (map field_def_row (take l.field-index l.fields)) l.initial.text l.text
