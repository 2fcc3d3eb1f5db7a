use Rattle.fit_table.proofs.Common.{◌∙◌, ap, field, first_field, first_number, IsColumn, PutsCell, value_text, subst, take, items_at}
use Rattle.fit_texts.proofs.ProfileScales.{known_scale}
use Rattle.fit_table.proofs.ShownAmounts.{value_shown}
use Rattle.fit_table.proofs.TableColumnFacts.{amount_of, first_at, is_in, meant_first, no_value}
use Rattle.fit_table.proofs.TableNumbers.{puts_none}
use Rattle.fit_table.specs.inner.TableColumns.{held_number, meant_number, shown_number}
use Rattle.fit_table.specs.declared.columns.Column.{Column}
use Rattle.fit_table.proofs.numbers.in_bytes.NumbersInBytes.write_value.Goals as goal

pub write_placed-requires-clause-known : goal.write_placed-requires-clause-known
write_placed-requires-clause-known c =
    let d = c.requires.numbers.0 in
    (subst (λ (column : Column). IsColumn d.fields (shown_number c.args.field) column) c.in-At.is (c.column.ensures d.fields c.requires.numbers.3.places)).1

pub write_placed-requires-clause-spot : goal.write_placed-requires-clause-spot
write_placed-requires-clause-spot c =
    let d = c.requires.numbers.0 in
    let are = c.requires.numbers.3 in
    let first = subst (λ (column : Column). IsColumn d.fields (shown_number c.args.field) column) c.in-At.is (c.column.ensures d.fields are.places) in
    is_in d.fields (shown_number c.args.field) c.in-At.place.spot c.args.self.now.bytes.now first.0 are.within

pub returns-in-At-clause-cell : goal.returns-in-At-clause-cell
returns-in-At-clause-cell c d v t are =
    let s = c.in-At.place.spot in
    let o = c.args.self.now.order in
    let items = items_at s o c.args.self.now.bytes.now in
    let first = subst (λ (column : Column). IsColumn d.fields (shown_number c.args.field) column) c.in-At.is (c.column.ensures d.fields are.places) in
    let found = first_at s o c.args.self.now.bytes.now d v (shown_number c.args.field) first.0 are.fields in
    let put = c.write_placed.result in
    subst (λ known. PutsCell (amount_of known) put.0 (take c.args.at c.args.row.now) (take put.1 c.write_placed.new.row))
    (ap (λ n. meant_number n s.field items) first.0.numbered ∙ meant_first d v (shown_number c.args.field) s.field items are.global found)
    c.write_placed.ensures.cell

pub returns-in-Absent-clause-cell : goal.returns-in-Absent-clause-cell
returns-in-Absent-clause-cell c d v t are =
    let absent = subst (λ (column : Column). IsColumn d.fields (shown_number c.args.field) column) c.in-Absent.is (c.column.ensures d.fields are.places) in
    puts_none (value_text d v (shown_number c.args.field)) (take c.args.at c.args.row.now)
    (no_value d v (shown_number c.args.field) (ap (λ items. held_number (first_field d.fields items (shown_number c.args.field))) are.fields
    ∙ absent c.args.self.now.order c.args.self.now.bytes.now))

pub value-requires : goal.value-requires
value-requires c =
    let d = c.requires.numbers.0 in
    let are = c.requires.numbers.3 in
    let first = subst (λ (column : Column). IsColumn d.fields (shown_number c.args.field) column) c.in-Wide.is (c.column.ensures d.fields are.places) in
    is_in d.fields (shown_number c.args.field) c.in-Wide.spot c.args.self.now.bytes.now first are.within

pub returns-in-Wide-clause-cell : goal.returns-in-Wide-clause-cell
returns-in-Wide-clause-cell c d v t are =
    let s = c.in-Wide.spot in
    let o = c.args.self.now.order in
    let items = items_at s o c.args.self.now.bytes.now in
    let first = subst (λ (column : Column). IsColumn d.fields (shown_number c.args.field) column) c.in-Wide.is (c.column.ensures d.fields are.places) in
    let found = first_at s o c.args.self.now.bytes.now d v (shown_number c.args.field) first are.fields in
    let put = c.write_number.result in
    subst (λ cell. PutsCell cell put.0 (take c.args.at c.args.row.now) (take put.1 c.write_number.new.row))
    (value_shown (first_number s.field items) (field 20 (shown_number c.args.field)) c.value.result (known_scale 20 (shown_number c.args.field))
    c.value.ensures.value
    ∙ ap amount_of (meant_first d v (shown_number c.args.field) s.field items are.global found)) c.write_number.ensures.cell
