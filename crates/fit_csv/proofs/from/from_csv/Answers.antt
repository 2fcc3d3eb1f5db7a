use Rattle.fit_csv.proofs.FromChain.{from-text-of}
use Rattle.fit_csv.proofs.from.from_csv.Goals as goal

pub returns-clause-chain : goal.returns-clause-chain
returns-clause-chain g c text files bytes input is =
    from-text-of c.chains_have_own_rows.ensures c.good_chains_have_no_fault.ensures text files bytes
    (record {
      before = g.S.Source.remaining c.args.source.now;
      after = g.S.Source.remaining c.read_and_convert.new.source;
      failed =
          g.S.Source.has_failed c.read_and_convert.new.source;
    })
    (record {
      before = g.K.Sink.contents c.args.sink.now;
      after = g.K.Sink.contents c.read_and_convert.new.sink;
      failed = g.K.Sink.has_failed c.read_and_convert.new.sink;
    })
    input is c.read_and_convert.result c.read_and_convert.ensures.reads

pub returns-clause-reads : goal.returns-clause-reads
returns-clause-reads g c = c.read_and_convert.ensures.reads

pub returns-clause-unchanged : goal.returns-clause-unchanged
returns-clause-unchanged g c = c.read_and_convert.ensures.unchanged
