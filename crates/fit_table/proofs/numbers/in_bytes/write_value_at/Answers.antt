use Rattle.fit_table.proofs.Common.{◌∙◌, ap, refl, sym, base_type, field, first_number, item_text, items_at, take}
use Rattle.std.proofs.Common.{Some}
use Rattle.fit_table.proofs.TableColumnFacts.{amount_in, amount_of, item_number, of_raw, some_meaning, value_hidden, value_shown}
use Rattle.fit_table.proofs.TableNumbers.{puts_none, puts_some}
use Rattle.fit_table.specs.inner.TableColumns.{meant_number}
use Rattle.fit_table.proofs.numbers.in_bytes.write_value_at.Goals as goal

pub returns-then-bits-place-clause-cell : goal.returns-then-bits-place-clause-cell
returns-then-bits-place-clause-cell c =
    let p = c.args.place.now in
    let f = p.spot.field in
    let items = items_at p.spot c.args.order c.args.bytes.now in
    let bits = c.bits-bits.result in
    let own = item_number p.spot c.args.order p.form.width c.args.bytes.now bits c.requires.spot.item c.requires.known.width c.bits-bits.ensures.bits in
    let meant = some_meaning f.code p.form (field 20 f.number) c.requires.known.form in
    puts_none (amount_of (meant_number f.number f items)) (take c.args.at c.args.row.now)
    (sym (of_raw (first_number f items) (field 20 f.number) meant.0 meant.1) ∙ ap (amount_in meant.0) own
    ∙ value_hidden f.code p.form meant.0 bits meant.2 c.if-bits-place.true)

pub returns-clause-cell : goal.returns-clause-cell
returns-clause-cell c =
    let p = c.args.place.now in
    let f = p.spot.field in
    let items = items_at p.spot c.args.order c.args.bytes.now in
    let bits = c.bits-bits.result in
    let own = item_number p.spot c.args.order p.form.width c.args.bytes.now bits c.requires.spot.item c.requires.known.width c.bits-bits.ensures.bits in
    let meant = some_meaning f.code p.form (field 20 f.number) c.requires.known.form in
    let text = item_text (base_type f.code).class f.code (Some meant.0) p.form.width bits in
    puts_some (amount_of (meant_number f.number f items)) text (take c.args.at c.args.row.now) (take c.write_formed.result c.write_formed.new.bytes)
    (sym (of_raw (first_number f items) (field 20 f.number) meant.0 meant.1) ∙ ap (amount_in meant.0) own
    ∙ value_shown f.code p.form meant.0 bits text meant.2 c.bits-bits.ensures.small c.if-bits-place.false refl)
    (c.write_formed.ensures.text f.code (Some meant.0) meant.2)
