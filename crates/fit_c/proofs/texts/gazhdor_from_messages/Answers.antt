use Rattle.fit_c.proofs.Common.{ap, subst, sym, ◌∙◌, Channel, IsTextUnlessNoMemory}
use Rattle.fit_c.proofs.Handed.{blocks_back, blocks_good}
use Rattle.fit_c.proofs.texts.gazhdor_from_messages.Goals as goal

pub returns-clause-read : goal.returns-clause-read
returns-clause-read c =
    let sink : Channel = record {
      before = c.memory-sink.result.held;
      after = c.from_messages-answered.new.sink.held;
      failed = c.from_messages-answered.new.sink.failed;
    }
    in (
      c.from_messages-answered.result,
      sink,
      c.memory-sink.ensures.held,
      c.answer_for_blocks.ensures,
      c.from_messages-answered.ensures.ok,
      c.from_messages-answered.ensures.refused,
    )

pub returns-clause-good : goal.returns-clause-good
returns-clause-good c = λ zero.
    let sink : Channel = record {
      before = c.memory-sink.result.held;
      after = c.from_messages-answered.new.sink.held;
      failed = c.from_messages-answered.new.sink.failed;
    }
    in
    blocks_good sink c.is_ok.result c.handed_where.result.now c.memory-sink.ensures.held c.handed_where.ensures.good
    c.args.blocks.now c.from_messages-answered.result c.is_ok.ensures.value c.from_messages-answered.ensures.ok
    (ap (λ a. a.status) (sym c.answer_for_blocks.ensures) ∙ zero)

pub returns-clause-chain : goal.returns-clause-chain
returns-clause-chain c = λ files b of.
    let sink : Channel = record {
      before = c.memory-sink.result.held;
      after = c.from_messages-answered.new.sink.held;
      failed = c.from_messages-answered.new.sink.failed;
    }
    in
    subst (λ a. IsTextUnlessNoMemory b a c.handed_where.result.now) (sym c.answer_for_blocks.ensures)
    (blocks_back sink c.is_ok.result c.handed_where.result.now c.memory-sink.ensures.held c.handed_where.ensures.good
    b c.from_messages-answered.result c.is_ok.ensures.value
    (c.from_messages-answered.ensures.chain files b of))
