use Rattle.fit_report.specs.Reports.{channel}
use Rattle.fit_examples.proofs.RatesTold.{puts_rates}
use Rattle.fit_examples.proofs.document.rates_document.Goals as goal

pub returns-clause-reports : goal.returns-clause-reports
returns-clause-reports g c = let (taken, heard, eats, told, has) = c.report_document.ensures.reports in (taken, heard, eats, told)

pub returns-clause-chain : goal.returns-clause-chain
returns-clause-chain g c = λ fs b input are chain.
    puts_rates fs (channel g.S.Source.remaining g.S.Source.has_failed c.args.source.now c.report_document.new.source)
    (channel g.K.Sink.contents g.K.Sink.has_failed c.args.sink.now c.report_document.new.sink) c.report_document.result
    (c.report_document.ensures.chain fs b input are chain)
