use Rattle.std.proofs.Common.{◌≡◌, ◌∙◌, ◌++◌, ap, refl, take}
use Rattle.std.proofs.lemmas.Result.{on_ok_weaker}
use Rattle.fit_chain.specs.Events.{item}
use Rattle.fit_record.specs.declared.message.Record.TheVariants.{Values as Data}
use Rattle.fit_messages.specs.Kept.{KeptHeard}
use Rattle.fit_messages.specs.inner.Telling.{block_next, kept_next}
use Rattle.fit_messages.proofs.ToldEvents.{block_is, kept_is, told_message}
use Rattle.fit_messages.proofs.report.MessagesReportMessageTaker.take.Goals as goal

pub take_message-requires-clause-message : goal.take_message-requires-clause-message
take_message-requires-clause-message c =
    let (heard, v, has, is) = c.requires.message in
    let bytes = take c.args.size c.args.piece.now in
    (v, told_message heard c.args.self.now.records v bytes bytes (ap (λ (k : KeptHeard). k.records) has) refl is)

pub returns-clause-heard : goal.returns-clause-heard
returns-clause-heard c = on_ok_weaker c.take_message.result (λ taken heard v has is.
    let bytes = take c.args.size c.args.piece.now in
    taken v (told_message heard c.args.self.now.records v bytes bytes (ap (λ (k : KeptHeard). k.records) has) refl is)
    ∙ ap (λ k. kept_next k (item (Data v))) has ∙ kept_is heard (item (Data v))) c.take_message.ensures.kept

pub returns-clause-text : goal.returns-clause-text
returns-clause-text c = on_ok_weaker c.take_message.result (λ put heard v has is.
    let bytes = take c.args.size c.args.piece.now in
    put v (told_message heard c.args.self.now.records v bytes bytes (ap (λ (k : KeptHeard). k.records) has) refl is)
    ∙ ap (λ k. c.args.text.now.items ++ block_next k (item (Data v))) has
    ∙ ap (λ b. c.args.text.now.items ++ b) (block_is heard (item (Data v)))) c.take_message.ensures.text
