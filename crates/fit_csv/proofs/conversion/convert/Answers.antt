use Rattle.fit_csv.proofs.Common.{Err, sym, subst, flat_map, file_events, channel, Converts, ConvertsTo}
use Rattle.std.proofs.Common.{Ok}
use Rattle.fit_csv.proofs.Converted.{chain_converted, converted, unbegun}
use Rattle.fit_csv.proofs.conversion.convert.Goals as goal

pub returns-in-Err-clause-converts : goal.returns-in-Err-clause-converts
returns-in-Err-clause-converts g c rows text =
    unbegun c.args.first.now g.R.Report.line rows text (g.K.Sink.contents c.args.sink.now) (g.K.Sink.contents c.args.sink.now)
    (g.K.Sink.contents c.put_all.new.sink) (g.K.Sink.has_failed c.put_all.new.sink)
    (g.S.Source.remaining c.args.source.now) (g.S.Source.has_failed c.args.source.now) c.in-Err.written c.requires.short c.in-Err.ensures.err
    c.in-Err.ensures.failed c.in-Err.ensures.part

pub returns-in-Ok-clause-converts : goal.returns-in-Ok-clause-converts
returns-in-Ok-clause-converts g c rows text =
    let source = channel g.S.Source.remaining g.S.Source.has_failed c.args.source.now c.report.new.source in
    converted c.args.first.now g.R.Report.line rows text (g.K.Sink.contents c.args.sink.now) (g.K.Sink.contents c.put_all.new.sink)
    (g.K.Sink.contents c.report.new.sink) (g.K.Sink.has_failed c.report.new.sink)
    g.R.Report.has_heard c.report.new.reporter source (Ok c.in-Ok.field-0) c.in_default.ensures.ok c.in-Ok.ensures.reports

pub returns-in-Ok-clause-chain : goal.returns-in-Ok-clause-chain
returns-in-Ok-clause-chain g c rows text fs b is are chain =
    let source = channel g.S.Source.remaining g.S.Source.has_failed c.args.source.now c.report.new.source in
    chain_converted c.args.first.now g.R.Report.line rows text (g.K.Sink.contents c.args.sink.now) (g.K.Sink.contents c.put_all.new.sink)
    (g.K.Sink.contents c.report.new.sink) (g.K.Sink.has_failed c.report.new.sink)
    source fs (Ok c.in-Ok.field-0) c.in_default.ensures.ok (c.in-Ok.ensures.chain fs b is are chain)

pub returns-in-Err-report-clause-converts : goal.returns-in-Err-report-clause-converts
returns-in-Err-report-clause-converts g c rows text =
    let source = channel g.S.Source.remaining g.S.Source.has_failed c.args.source.now c.report.new.source in
    let sink = channel g.K.Sink.contents g.K.Sink.has_failed c.args.sink.now c.report.new.sink in
    subst (λ fault. Converts rows source sink (Err fault)) (sym c.csv_fault.ensures)
    (converted c.args.first.now g.R.Report.line rows text (g.K.Sink.contents c.args.sink.now) (g.K.Sink.contents c.put_all.new.sink)
    (g.K.Sink.contents c.report.new.sink) (g.K.Sink.has_failed c.report.new.sink)
    g.R.Report.has_heard c.report.new.reporter source (Err c.in-Err-report.fault) c.in_default.ensures.ok c.in-Err-report.ensures.reports)

pub returns-in-Err-report-clause-chain : goal.returns-in-Err-report-clause-chain
returns-in-Err-report-clause-chain g c rows text fs b is are chain =
    let source = channel g.S.Source.remaining g.S.Source.has_failed c.args.source.now c.report.new.source in
    let sink = channel g.K.Sink.contents g.K.Sink.has_failed c.args.sink.now c.report.new.sink in
    subst (λ fault. ConvertsTo (rows (flat_map file_events fs)) source sink (Err fault)) (sym c.csv_fault.ensures)
    (chain_converted c.args.first.now g.R.Report.line rows text (g.K.Sink.contents c.args.sink.now) (g.K.Sink.contents c.put_all.new.sink)
    (g.K.Sink.contents c.report.new.sink) (g.K.Sink.has_failed c.report.new.sink)
    source fs (Err c.in-Err-report.fault) c.in_default.ensures.ok (c.in-Err-report.ensures.chain fs b is are chain))

pub returns-in-Ok-clause-works : goal.returns-in-Ok-clause-works
returns-in-Ok-clause-works g c long = c.in-Ok.ensures.works (c.in_default.ensures.works long)
