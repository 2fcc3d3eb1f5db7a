-- Of what was told, where the input is a chain's bytes.
use Rattle.fit_report.proofs.Common.{channel}
use Rattle.fit_report.proofs.Chains.{hears_chain, reports_chain}
use Rattle.fit_report.proofs.reporting.report.Goals as goal

pub tell_all-requires-clause-fresh : goal.tell_all-requires-clause-fresh
tell_all-requires-clause-fresh g c = c.new-telling.ensures

pub tell_all-requires-clause-heard : goal.tell_all-requires-clause-heard
tell_all-requires-clause-heard g c = c.requires

pub returns-clause-chain : goal.returns-clause-chain
returns-clause-chain g c = λ fs b input are chain.
    reports_chain g.R.Report.line fs b are chain g.R.Report.has_heard c.tell_all.new.reporter
    (channel g.S.Source.remaining g.S.Source.has_failed c.args.source.now c.tell_all.new.source)
    (channel g.K.Sink.contents g.K.Sink.has_failed c.args.sink.now c.tell_all.new.sink) c.tell_all.result input c.tell_all.ensures.reports

pub returns-clause-heard : goal.returns-clause-heard
returns-clause-heard g c = λ fs b input are chain.
    hears_chain g.R.Report.line fs b are chain g.R.Report.has_heard c.tell_all.new.reporter
    (channel g.S.Source.remaining g.S.Source.has_failed c.args.source.now c.tell_all.new.source)
    (channel g.K.Sink.contents g.K.Sink.has_failed c.args.sink.now c.tell_all.new.sink) c.tell_all.result input c.tell_all.ensures.reports

pub returns-clause-reports : goal.returns-clause-reports
returns-clause-reports g c = c.tell_all.ensures.reports

pub returns-clause-works : goal.returns-clause-works
returns-clause-works g c = c.tell_all.ensures.works
