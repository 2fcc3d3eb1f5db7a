use Rattle.std.proofs.Common.{◌∙◌, ◌+◌, ap, arith, sym, drop, length}
use Rattle.std.proofs.lemmas.List.{take_rest}
use Rattle.csv.proofs.ReadFacts.{on-ok}
use Rattle.fit_cells.proofs.LoneCells.{always_ok, cell_sent, cell_within, few_before, put_err, put_ok, some_before}
use Rattle.fit_cells.proofs.lone.put_after.Goals as goal

pub returns-clause-text : goal.returns-clause-text
returns-clause-text c =
    let wrote = on-ok c.write_field.result (sym c.is_err.ensures.value ∙ c.if-is_err.false) c.write_field.ensures.text in
    let sent = on-ok c.flush.result (sym c.is_err-else-is_err.ensures.value ∙ c.if-is_err-2.false) c.flush.ensures.pending in
    let start = length c.as_slice-start.result.now in
    let cells = c.as_slice-cells.result.now in
    let own = take_rest cells (start + c.args.before)
    ∙ ap (drop (start + c.args.before)) (c.as_slice-cells.ensures.value ∙ ap (λ v. v.items) c.get_ref-2.ensures)
    ∙ cell_sent c.args.writer.now c.write_field.new.self c.flush.new.self c.args.cell.now start c.args.before c.requires
    (ap length c.as_slice-start.ensures.value ∙ ap (λ v. length v.items) c.get_ref.ensures) wrote c.flush.ensures.bytes sent in
    put_ok c.extend_from_slice.result c.args.text.now.items _ _ _ c.extend_from_slice.ensures.items own

pub returns-clause-err : goal.returns-clause-err
returns-clause-err c = put_err c.extend_from_slice.result c.args.text.now.items _ _ c.extend_from_slice.ensures.items

pub returns-clause-row : goal.returns-clause-row
returns-clause-row c =
    let good = sym c.is_err.ensures.value ∙ c.if-is_err.false in
    always_ok c.extend_from_slice.result _ (record {
      setup = c.flush.ensures.setup ∙ on-ok c.write_field.result good c.write_field.ensures.same ∙ c.requires.setup;
      sent = on-ok c.flush.result (sym c.is_err-else-is_err.ensures.value ∙ c.if-is_err-2.false) c.flush.ensures.pending;
      before = some_before _ _ (c.flush.ensures.fields ∙ on-ok c.write_field.result good c.write_field.ensures.count);
    })

pub overflow_add-start : goal.overflow_add-start
overflow_add-start c = omega (arith, few_before _ _ c.requires.before, c.as_slice-start.type_inv.1)

pub slice_bounds-extend_from_slice-start : goal.slice_bounds-extend_from_slice-start
slice_bounds-extend_from_slice-start c =
    let wrote = on-ok c.write_field.result (sym c.is_err.ensures.value ∙ c.if-is_err.false) c.write_field.ensures.text in
    let sent = on-ok c.flush.result (sym c.is_err-else-is_err.ensures.value ∙ c.if-is_err-2.false) c.flush.ensures.pending in
    omega (
      arith,
      cell_within c.args.writer.now c.write_field.new.self c.flush.new.self c.args.cell.now (length c.as_slice-start.result.now) c.args.before c.requires
          (ap length c.as_slice-start.ensures.value ∙ ap (λ v. length v.items) c.get_ref.ensures) wrote c.flush.ensures.bytes sent,
      ap length c.as_slice-cells.ensures.value,
      ap (λ v. length v.items) c.get_ref-2.ensures,
    )
