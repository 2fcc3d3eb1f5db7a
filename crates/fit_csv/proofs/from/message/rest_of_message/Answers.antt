use Rattle.fit_csv.proofs.Common.{◌≡◌, ◌∙◌, [], refl, sym, ap, subst, message_label, optional_number, row, IsMessageRow, global_at, Row, DifferAt}
use Rattle.fit_csv.proofs.Common.{row_of}
use Rattle.std.proofs.Common.{decimal}
use Rattle.std.specs.Prelude.{codes}
use Rattle.fit_csv.proofs.Closest.{closest}
use Rattle.fit_csv.proofs.SevenCells.{same-cells}
use Rattle.fit_csv.proofs.MessageRows.{message-closest, time_cell}
use Rattle.fit_csv.proofs.from.message.rest_of_message.Goals as goal

pub returns-in-Some-clause-err : goal.returns-in-Some-clause-err
returns-in-Some-clause-err c =
    let cells = c.args.cells.now in
    let before = c.args.before.now in
    let local = c.args.local in
    let offset = c.offset_in-offset.result in
    let shown : Row = row (codes "data") (decimal c.args.local) (optional_number c.offset_in-offset.result)
    (message_label (global_at c.args.before.now c.args.local))
    (time_cell c.args.before.now c.offset_in-offset.result) [] [] in
    let ec : c.as_bytes.result.now ≡ message_label (global_at c.args.before.now c.args.local) =
    c.as_bytes.ensures.value ∙ c.as_str.ensures.value ∙ c.message_label-label.ensures ∙ ap message_label c.global_at.ensures in
    let ed : c.as_bytes-2.result.now ≡ time_cell c.args.before.now c.offset_in-offset.result =
    c.as_bytes-2.ensures.value ∙ c.as_str-2.ensures.value ∙ c.header_time_text-time.ensures in
    let differs : DifferAt c.in-Some.column shown (row_of c.args.cells.now) =
    subst (λ (r : Row). DifferAt c.in-Some.column r (row_of c.args.cells.now))
    (same-cells c.requires.kind (sym c.requires.shown) c.optional_number.ensures ec ed refl refl) c.in-Some.ensures.some in
    closest (IsMessageRow before) (row_of c.args.cells.now) shown c.in-Some.column (
      record { local = local; offset = offset; fields = []; dev = [] },
      record { header = c.offset_in-offset.ensures.fits; defined = c.requires.defined; no_fields = refl; no_dev_fields = refl },
      refl,
    )
    (rw c.requires.kind (message-closest before cells.a.now cells.b.now cells.c.now cells.d.now cells.e.now cells.f.now local offset c.requires.small
    c.requires.shown c.offset_in-offset.ensures.every))
    differs

pub returns-in_ok-with_capacity-in-None-clause-ok : goal.returns-in_ok-with_capacity-in-None-clause-ok
returns-in_ok-with_capacity-in-None-clause-ok c =
    let ec : c.as_bytes.result.now ≡ message_label (global_at c.args.before.now c.args.local) =
    c.as_bytes.ensures.value ∙ c.as_str.ensures.value ∙ c.message_label-label.ensures ∙ ap message_label c.global_at.ensures in
    let ed : c.as_bytes-2.result.now ≡ time_cell c.args.before.now c.offset_in-offset.result =
    c.as_bytes-2.ensures.value ∙ c.as_str-2.ensures.value ∙ c.header_time_text-time.ensures in
    sym (c.in-None.ensures.none refl) ∙ same-cells c.requires.kind (sym c.requires.shown) c.optional_number.ensures ec ed refl refl
