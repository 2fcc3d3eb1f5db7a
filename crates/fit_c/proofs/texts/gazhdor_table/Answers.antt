-- The sink had nothing at first, and what it has is handed over.
use Rattle.fit_c.proofs.Common.{Some, subst, sym, Channel, given}
use Rattle.fit_table.specs.Table.{table_of}
use Rattle.fit_csv.specs.Conversions.{Converts}
use Rattle.fit_c.proofs.texts.gazhdor_table.Goals as goal

pub returns-clause-converted : goal.returns-clause-converted
returns-clause-converted c =
    let r = c.table-answered.result in
    let left = c.table-answered.new.source.now in
    let failed = c.table-answered.new.sink.failed in
    let source : Channel = given c.args.bytes.now left in (
      r,
      left,
      failed,
      c.answer_for_conversion.ensures,
      subst (λ b. Converts table_of source (record { before = b; after = Some c.handed.result.now; failed = failed }) r) c.memory-sink.ensures.held
          (subst (λ a. Converts table_of source (record { before = c.memory-sink.result.held; after = a; failed = failed }) r) (sym c.handed.ensures)
          c.table-answered.ensures.converts),
    )
