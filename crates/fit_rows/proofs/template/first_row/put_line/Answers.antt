use Rattle.fit_rows.proofs.Common.{message_label}
use Rattle.fit_rows.proofs.FramedRows.{line_parts}
use Rattle.fit_rows.proofs.template.first_row.put_line.Goals as goal

pub returns : goal.returns
returns c = line_parts c.args.local (message_label c.args.global) c.args.text.now c.put_front.new.text c.put_label.new.text c.extend_from_slice.new.self
    c.in_ok-put_front.ensures c.in_ok-put_label.ensures c.in_ok-extend_from_slice.ensures.items
