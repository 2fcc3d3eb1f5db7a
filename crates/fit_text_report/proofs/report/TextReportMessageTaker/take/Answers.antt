use Rattle.fit_text_report.proofs.Common.{◌≡◌, ◌∙◌, ◌∷◌, ap, take, Data, KeptEvents, kept_events}
use Rattle.std.proofs.lemmas.Result.{on_ok_weaker}
use Rattle.fit_text_report.proofs.HeardEvents.{told_message}
use Rattle.fit_text_report.proofs.report.TextReportMessageTaker.take.Goals as goal

pub take_message-requires : goal.take_message-requires
take_message-requires g c =
    let (heard, v, has, is) = c.requires.message in (
      v,
      told_message heard c.self.inside.teller.records v (take c.args.size c.args.piece.now) c.split_at.result.0.now
          (ap (λ (k : KeptEvents). k.records) (c.self.view_is ∙ has)) c.split_at.ensures.front is,
    )

pub returns-clause-heard : goal.returns-clause-heard
returns-clause-heard g c = on_ok_weaker c.take_message.result (λ taken heard v has is.
    let same = c.self.view_is ∙ has in
    taken v (told_message heard c.self.inside.teller.records v (take c.args.size c.args.piece.now) c.split_at.result.0.now
    (ap (λ (k : KeptEvents). k.records) same) c.split_at.ensures.front is)
    ∙ ap (λ (k : KeptEvents). record { records = Data v ∷ k.records; files = k.files }) same) c.take_message.ensures.heard

pub returns-clause-text : goal.returns-clause-text
returns-clause-text g c = on_ok_weaker c.take_message.result (λ put heard v has is.
    let same = c.self.view_is ∙ has in
    put heard v same (told_message heard c.self.inside.teller.records v (take c.args.size c.args.piece.now) c.split_at.result.0.now
    (ap (λ (k : KeptEvents). k.records) same) c.split_at.ensures.front is)) c.take_message.ensures.text
