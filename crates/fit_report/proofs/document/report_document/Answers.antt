-- All is told, and then the ending is put.
use Rattle.fit_report.proofs.Common.{channel, refl, err_from_is_err_and}
use Rattle.fit_report.proofs.Chains.{document_chain, hears_document}
use Rattle.fit_report.proofs.Documents.{ends, has_all, stops_before_end}
use Rattle.fit_report.proofs.document.report_document.Goals as goal

pub tell_all-requires-clause-fresh : goal.tell_all-requires-clause-fresh
tell_all-requires-clause-fresh g c = c.new-telling.ensures

pub tell_all-requires-clause-heard : goal.tell_all-requires-clause-heard
tell_all-requires-clause-heard g c = c.requires

pub put_ending-requires : goal.put_ending-requires
put_ending-requires g c =
    has_all g.R.Report.has_heard g.R.Report.line c.tell_all.new.reporter c.tell_all.new.telling
    (channel g.S.Source.remaining g.S.Source.has_failed c.args.source.now c.tell_all.new.source)
    (g.K.Sink.contents c.args.sink.now) (g.K.Sink.contents c.tell_all.new.sink) c.in_ok-tell_all.ensures.ended

pub returns-in_err-tell_all-clause-reports : goal.returns-in_err-tell_all-clause-reports
returns-in_err-tell_all-clause-reports g c =
    let p = err_from_is_err_and c.from_residual.result c.from_residual.ensures.1 in
    rw (p.1, p.2) (stops_before_end g.R.Report.has_heard c.tell_all.new.reporter g.R.Report.line g.R.Document.ending
    (channel g.S.Source.remaining g.S.Source.has_failed c.args.source.now c.tell_all.new.source)
    (channel g.K.Sink.contents g.K.Sink.has_failed c.args.sink.now c.tell_all.new.sink) c.in_err-tell_all.field-0.0 c.in_err-tell_all.ensures.reports)

pub returns-in_err-tell_all-clause-chain : goal.returns-in_err-tell_all-clause-chain
returns-in_err-tell_all-clause-chain g c = λ fs b input are chain.
    document_chain g.R.Report.line fs b are chain g.R.Report.has_heard c.tell_all.new.reporter g.R.Document.ending
    (channel g.S.Source.remaining g.S.Source.has_failed c.args.source.now c.tell_all.new.source)
    (channel g.K.Sink.contents g.K.Sink.has_failed c.args.sink.now c.tell_all.new.sink) c.from_residual.result input
    (returns-in_err-tell_all-clause-reports g c)

pub returns-in_err-tell_all-clause-heard : goal.returns-in_err-tell_all-clause-heard
returns-in_err-tell_all-clause-heard g c = λ fs b input are chain.
    hears_document g.R.Report.line fs b are chain g.R.Report.has_heard c.tell_all.new.reporter g.R.Document.ending
    (channel g.S.Source.remaining g.S.Source.has_failed c.args.source.now c.tell_all.new.source)
    (channel g.K.Sink.contents g.K.Sink.has_failed c.args.sink.now c.tell_all.new.sink) c.from_residual.result input
    (returns-in_err-tell_all-clause-reports g c)

pub returns-clause-reports : goal.returns-clause-reports
returns-clause-reports g c =
    ends g.R.Report.has_heard g.R.Report.line c.tell_all.new.reporter c.tell_all.new.telling
    (channel g.S.Source.remaining g.S.Source.has_failed c.args.source.now c.tell_all.new.source)
    (g.K.Sink.contents c.args.sink.now) (g.K.Sink.contents c.tell_all.new.sink) c.in_ok-tell_all.ensures.ended
    g.R.Document.ending c.put_ending.new.reporter
    (channel g.K.Sink.contents g.K.Sink.has_failed c.tell_all.new.sink c.put_ending.new.sink) c.written.result c.put_ending.result
    refl c.written.ensures c.put_ending.ensures.heard c.put_ending.ensures.puts

pub returns-clause-chain : goal.returns-clause-chain
returns-clause-chain g c = λ fs b input are chain.
    document_chain g.R.Report.line fs b are chain g.R.Report.has_heard c.put_ending.new.reporter g.R.Document.ending
    (channel g.S.Source.remaining g.S.Source.has_failed c.args.source.now c.tell_all.new.source)
    (channel g.K.Sink.contents g.K.Sink.has_failed c.args.sink.now c.put_ending.new.sink) c.put_ending.result input
    (returns-clause-reports g c)

pub returns-clause-heard : goal.returns-clause-heard
returns-clause-heard g c = λ fs b input are chain.
    hears_document g.R.Report.line fs b are chain g.R.Report.has_heard c.put_ending.new.reporter g.R.Document.ending
    (channel g.S.Source.remaining g.S.Source.has_failed c.args.source.now c.tell_all.new.source)
    (channel g.K.Sink.contents g.K.Sink.has_failed c.args.sink.now c.put_ending.new.sink) c.put_ending.result input
    (returns-clause-reports g c)
