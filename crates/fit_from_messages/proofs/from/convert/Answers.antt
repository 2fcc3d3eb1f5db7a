use Rattle.std.proofs.Common.{sym, subst}
use Rattle.fit_report.specs.Reports.{channel}
use Rattle.fit_from_messages.specs.FromBlocks.{FromBlocksFault}
use Rattle.fit_from_messages.proofs.WrittenBlocks.{from_fault}
use Rattle.fit_from_messages.proofs.from.convert.Goals as goal

pub returns-clause-err : goal.returns-clause-err
returns-clause-err g c =
    let sink = channel g.K.Sink.contents g.K.Sink.has_failed c.args.sink.now c.write_spelled.new.sink in
    subst (FromBlocksFault c.args.blocks.now sink) (sym c.from_fault.ensures)
    (from_fault c.faults_are_exact.ensures c.args.blocks.now c.read_files.new.files c.in_ok-read_files.ensures.ok sink c.in-Err.fault c.in-Err.ensures.refused
    c.in-Err.ensures.written_of_good c.in-Err.ensures.written)
