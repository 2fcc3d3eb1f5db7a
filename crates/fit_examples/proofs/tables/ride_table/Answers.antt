use Rattle.std.proofs.Common.{ap}
use Rattle.fit_examples.proofs.Common.{false, Some, refl, flat_map, err_from_is_err_and, slice_is_bytes, file_events}
use Rattle.fit_cells.specs.Rows.{csv_text}
use Rattle.fit_report.specs.Reports.{Channel}
use Rattle.fit_table.specs.Table.{table_of}
use Rattle.fit_examples.proofs.TableText.{only_text, table_fault, wants_memory, whole_chain}
use Rattle.fit_examples.proofs.tables.ride_table.Goals as goal

pub returns-in_err-table-clause-memory : goal.returns-in_err-table-clause-memory
returns-in_err-table-clause-memory c = λ chain.
    let p = err_from_is_err_and c.from_residual.result c.from_residual.ensures.1 in
    let source : Channel = record { before = Some c.args.ride.now; after = Some c.table.new.source.now; failed = false } in
    let sink : Channel = record { before = c.new-sink.result.held; after = c.table.new.sink.held; failed = c.table.new.sink.failed } in
    rw (p.1, p.2)
    (wants_memory (table_of (flat_map file_events chain.0)) source sink c.in_err-table.field-0.0 refl
    (c.in_err-table.ensures.chain chain.0 c.args.ride.now refl (slice_is_bytes c.args.ride.now c.type_inv.ride) chain.1))

pub returns-in_err-table-clause-fault : goal.returns-in_err-table-clause-fault
returns-in_err-table-clause-fault c =
    let p = err_from_is_err_and c.from_residual.result c.from_residual.ensures.1 in
    let sink : Channel = record { before = c.new-sink.result.held; after = c.table.new.sink.held; failed = c.table.new.sink.failed } in
    rw (p.1, p.2) (table_fault table_of c.args.ride.now c.table.new.source.now sink c.in_err-table.field-0.0 c.in_err-table.ensures.converts)

pub returns-clause-good : goal.returns-clause-good
returns-clause-good c =
    let sink : Channel = record { before = c.new-sink.result.held; after = c.table.new.sink.held; failed = c.table.new.sink.failed } in
    whole_chain table_of c.args.ride.now c.table.new.source.now sink _ c.in_ok-table.ensures.converts

pub returns-clause-rows : goal.returns-clause-rows
returns-clause-rows c fs chain =
    only_text c.new-sink.result.held c.table.new.sink.held c.new.result.items (csv_text (table_of (flat_map file_events fs))) c.into_inner.result.items
    (ap (λ s. s.held) c.new-sink.ensures) c.new.ensures.items c.into_inner.ensures
    (c.in_ok-table.ensures.chain fs c.args.ride.now refl (slice_is_bytes c.args.ride.now c.type_inv.ride) chain)
