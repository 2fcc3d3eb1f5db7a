use Rattle.fit_csv.proofs.Common.{channel, read_out}
use Rattle.fit_csv.proofs.FromChain.{of-answer}
use Rattle.fit_csv.proofs.from.from_csv_text.Goals as goal

pub returns-clause-chain : goal.returns-clause-chain
returns-clause-chain g c files bytes is =
    of-answer c.chains_have_own_rows.ensures c.good_chains_have_no_fault.ensures c.args.text.now files bytes (read_out c.args.text.now)
    (channel g.K.Sink.contents g.K.Sink.has_failed c.args.sink.now c.convert.new.sink) c.convert.result is c.convert.ensures.answers
