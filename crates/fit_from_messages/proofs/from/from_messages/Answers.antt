use Rattle.fit_report.specs.Reports.{channel}
use Rattle.fit_from_messages.proofs.WrittenBlocks.{of_result}
use Rattle.fit_from_messages.proofs.from.from_messages.Goals as goal

pub returns-clause-chain : goal.returns-clause-chain
returns-clause-chain g c files bytes is =
    of_result c.good_chains_have_no_fault.ensures c.args.blocks.now files bytes
    (channel g.K.Sink.contents g.K.Sink.has_failed c.args.sink.now c.convert.new.sink) c.convert.result is c.convert.ensures.ok c.convert.ensures.err
