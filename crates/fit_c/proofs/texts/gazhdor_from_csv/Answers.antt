use Rattle.fit_c.proofs.Common.{[], refl, ap, subst, sym, ◌∙◌, Answers, Channel, IsTextUnlessNoMemory, given}
use Rattle.fit_c.proofs.Handed.{bytes_back, text_good}
use Rattle.std.proofs.lemmas.List.{append-nil}
use Rattle.fit_c.proofs.texts.gazhdor_from_csv.Goals as goal

pub returns-clause-read : goal.returns-clause-read
returns-clause-read c =
    let text = c.args.text.now in
    let r = c.from_csv_text-answered.result in
    let held = c.from_csv_text-answered.new.sink.held in
    let failed = c.from_csv_text-answered.new.sink.failed in (
      r,
      [],
      held,
      failed,
      c.answer_for_conversion.ensures,
      (
        text,
        sym (append-nil text),
        subst (λ b. Answers text (given text []) (record { before = b; after = held; failed = failed }) r) c.memory-sink.ensures.held
            c.from_csv_text-answered.ensures.answers,
      ),
    )

pub returns-clause-good : goal.returns-clause-good
returns-clause-good c = λ zero.
    let sink : Channel = record {
      before = c.memory-sink.result.held;
      after = c.from_csv_text-answered.new.sink.held;
      failed = c.from_csv_text-answered.new.sink.failed;
    }
    in
    text_good sink c.is_ok.result c.handed_where.result.now c.memory-sink.ensures.held c.handed_where.ensures.good
    c.args.text.now c.from_csv_text-answered.result c.is_ok.ensures.value c.from_csv_text-answered.ensures.answers
    (ap (λ a. a.status) (sym c.answer_for_conversion.ensures) ∙ zero)

pub returns-clause-chain : goal.returns-clause-chain
returns-clause-chain c = λ files b of.
    let sink : Channel = record {
      before = c.memory-sink.result.held;
      after = c.from_csv_text-answered.new.sink.held;
      failed = c.from_csv_text-answered.new.sink.failed;
    }
    in
    subst (λ a. IsTextUnlessNoMemory b a c.handed_where.result.now) (sym c.answer_for_conversion.ensures)
    (bytes_back sink c.is_ok.result c.handed_where.result.now c.memory-sink.ensures.held c.handed_where.ensures.good
    b (given c.args.text.now []) c.from_csv_text-answered.result refl c.is_ok.ensures.value
    (c.from_csv_text-answered.ensures.chain files b of))
