use Rattle.fit_c.proofs.Common.{false, Some, refl, subst, sym, flat_map, reverse, file_events, text_of, Channel, HasTold, IsTextUnlessNoMemory, given}
use Rattle.fit_base.proofs.ByteLists.{slice_is_bytes}
use Rattle.fit_c.proofs.Handed.{shown_chain}
use Rattle.fit_c.proofs.texts.reported.Goals as goal

pub returns-clause-reported : goal.returns-clause-reported
returns-clause-reported g c =
    let r = c.report-answered.result in
    let left = c.report-answered.new.source.now in
    let failed = c.report-answered.new.sink.failed in
    let source : Channel = given c.args.bytes.now left in
    let (taken, heard, eaten, told, has) = c.report-answered.ensures.reports in (
      r,
      left,
      failed,
      c.answer_for_report.ensures,
      taken,
      heard,
      eaten,
      subst (λ b. HasTold g.R.Report.line taken source (record { before = b; after = Some c.handed.result.now; failed = failed }) heard r)
          c.memory-sink.ensures.held
          (subst (λ a. HasTold g.R.Report.line taken source (record { before = c.memory-sink.result.held; after = a; failed = failed }) heard r)
          (sym c.handed.ensures) told),
    )

pub returns-clause-chain : goal.returns-clause-chain
returns-clause-chain g c = λ fs chain.
    let source : Channel = record { before = Some c.args.bytes.now; after = Some c.report-answered.new.source.now; failed = false } in
    let sink : Channel = record { before = c.memory-sink.result.held; after = c.report-answered.new.sink.held; failed = c.report-answered.new.sink.failed } in
    let told = c.report-answered.ensures.chain fs c.args.bytes.now refl (slice_is_bytes c.args.bytes.now c.type_inv.bytes) chain in
    subst (λ a. IsTextUnlessNoMemory (text_of g.R.Report.line (reverse (flat_map file_events fs))) a c.handed.result.now) (sym c.answer_for_report.ensures)
    (shown_chain g.R.Report.line fs source sink c.report-answered.result c.handed.result.now refl c.memory-sink.ensures.held c.handed.ensures told)
