use Rattle.fit_csv.proofs.Common.{subst, channel, rows_of, ConvertsTo}
use Rattle.fit_rows.proofs.RowsOfEvents.{rows-of-chain}
use Rattle.fit_csv.proofs.ReportTexts.{rows_text}
use Rattle.fit_csv.proofs.conversion.to_csv.Goals as goal

pub returns-clause-converts : goal.returns-clause-converts
returns-clause-converts g c = c.convert.ensures.converts rows_of rows_text

pub returns-clause-chain : goal.returns-clause-chain
returns-clause-chain g c fs b is are chain =
    let source = channel g.S.Source.remaining g.S.Source.has_failed c.args.source.now c.convert.new.source in
    let sink = channel g.K.Sink.contents g.K.Sink.has_failed c.args.sink.now c.convert.new.sink in
    subst (λ rows. ConvertsTo rows source sink c.convert.result) (rows-of-chain fs) (c.convert.ensures.chain rows_of rows_text fs b is are chain)
