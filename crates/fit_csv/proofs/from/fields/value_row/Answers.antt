use Rattle.fit_csv.proofs.Common.{◌≡◌, ◌∙◌, [], refl, sym, subst, HasShape, meaning, cell, row, IsValueRow, Row, DifferAt, row_of}
use Rattle.std.specs.Prelude.{option_map}
use Rattle.fit_csv.proofs.Closest.{closest}
use Rattle.fit_csv.proofs.SevenCells.{same-cells}
use Rattle.fit_csv.proofs.ValueRows.{no-items, no-label, value-closest}
use Rattle.fit_csv.proofs.from.fields.value_row.Goals as goal

pub returns-then-not-same-clause-err : goal.returns-then-not-same-clause-err
returns-then-not-same-clause-err c =
    let cells = c.args.cells.now in
    no-label cells.kind.now c.args.label.now cells.a.now cells.b.now cells.c.now cells.d.now cells.e.now cells.f.now c.args.code.0 c.args.size
    (option_map meaning c.args.info) c.args.unit.now
    (λ e. cc (c.if-not-same.ensures.1 e))

pub returns-in_default-clause-err : goal.returns-in_default-clause-err
returns-in_default-clause-err c =
    let cells = c.args.cells.now in
    let same : c.args.label.now ≡ c.args.cells.now.a.now = sym (c.same.ensures.0 c.if-not-same.false) in
    no-items cells.kind.now c.args.label.now cells.a.now cells.b.now cells.c.now cells.d.now cells.e.now cells.f.now c.args.code.0 c.args.size
    (option_map meaning c.args.info) c.args.unit.now same
    (λ items shape e. c.in_default.not-Some items (c.in_ok-items.ensures.every items shape e))

pub returns-in-Some-first_difference-clause-err : goal.returns-in-Some-first_difference-clause-err
returns-in-Some-first_difference-clause-err c =
    let cells = c.args.cells.now in
    let info = option_map meaning c.args.info in
    let items = c.in-Some.items in
    let shown : Row = row c.args.cells.now.kind.now c.args.label.now (cell c.args.code.0 (option_map meaning c.args.info) c.in-Some.items) c.args.unit.now [] []
    [] in
    let same : c.args.label.now ≡ c.args.cells.now.a.now = sym (c.same.ensures.0 c.if-not-same.false) in
    let some : HasShape c.args.code.0 c.args.size c.in-Some.items
    × (cell c.args.code.0 (option_map meaning c.args.info) c.in-Some.items ≡ c.args.cells.now.b.now) = rw c.in-Some.is at c.in_ok-items.ensures.some in
    let differs : DifferAt c.in-Some-first_difference.column shown (row_of c.args.cells.now) =
    subst (λ (r : Row). DifferAt c.in-Some-first_difference.column r (row_of c.args.cells.now)) (same-cells refl (sym same) (sym some.1) refl refl refl refl)
    c.in-Some-first_difference.ensures.some in
    closest (IsValueRow cells.kind.now c.args.label.now c.args.code.0 c.args.size info c.args.unit.now) (row_of c.args.cells.now) shown
    c.in-Some-first_difference.column (items, some.0, refl)
    (value-closest cells.kind.now c.args.label.now cells.a.now cells.b.now cells.c.now cells.d.now cells.e.now cells.f.now c.args.code.0 c.args.size info
    c.args.unit.now items same some.1)
    differs

pub returns-in-None-clause-ok : goal.returns-in-None-clause-ok
returns-in-None-clause-ok c =
    let some : HasShape c.args.code.0 c.args.size c.in-Some.items
    × (cell c.args.code.0 (option_map meaning c.args.info) c.in-Some.items ≡ c.args.cells.now.b.now) = rw c.in-Some.is at c.in_ok-items.ensures.some in
    sym (c.in-None.ensures.none refl) ∙ same-cells refl (c.same.ensures.0 c.if-not-same.false) (sym some.1) refl refl refl refl

pub returns-in-None-clause-shape : goal.returns-in-None-clause-shape
returns-in-None-clause-shape c =
    let some : HasShape c.args.code.0 c.args.size c.in-Some.items
    × (cell c.args.code.0 (option_map meaning c.args.info) c.in-Some.items ≡ c.args.cells.now.b.now) = rw c.in-Some.is at c.in_ok-items.ensures.some in
    some.0
