-- A report, and what was said of it.
use Rattle.fit_run.proofs.Common.{channel}
use Rattle.fit_run.proofs.Ran.{ran, ran_chain}
use Rattle.fit_run.proofs.running.run_report.Goals as goal

pub returns-clause-runs : goal.returns-clause-runs
returns-clause-runs g c =
    ran g.K.Sink.contents g.K.Sink.has_failed c.report-told.new.sink c.end_report.new.output (g.K.Sink.contents c.args.output.now)
    (channel g.S.Source.remaining g.S.Source.has_failed c.args.source.now c.report-told.new.source)
    (channel g.E.Sink.contents g.E.Sink.has_failed c.args.faults.now c.end_report.new.faults) c.end_report.result
    g.R.Report.has_heard c.report-told.new.reporter g.R.Report.line c.report-told.result c.report-told.ensures.reports c.end_report.ensures.finishes

pub returns-clause-chain : goal.returns-clause-chain
returns-clause-chain g c = λ fs b input are chain well good.
    ran_chain g.K.Sink.contents g.K.Sink.has_failed c.report-told.new.sink c.end_report.new.output (g.K.Sink.contents c.args.output.now)
    (channel g.S.Source.remaining g.S.Source.has_failed c.args.source.now c.report-told.new.source)
    (channel g.E.Sink.contents g.E.Sink.has_failed c.args.faults.now c.end_report.new.faults) c.end_report.result
    g.R.Report.line fs well good c.report-told.result (c.report-told.ensures.chain fs b input are chain) c.end_report.ensures.finishes
