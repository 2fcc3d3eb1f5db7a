use Rattle.fit_text_report.proofs.Common.{◌∙◌, ◌^◌, sym, subst, AreHeard, Fits, KeptEvents, hear, known}
use Rattle.std.proofs.Common.{◌<◌}
use Rattle.fit_text_report.proofs.HeardEvents.{few_files, record_fits}
use Rattle.fit_text_report.proofs.report.TextReportReport.tell.Goals as goal

pub take_header-requires : goal.take_header-requires
take_header-requires g c =
    subst (λ (k : KeptEvents). k.files < 2 ^ 60) (sym (c.self.view_is ∙ c.requires.1)) (few_files c.requires.0 c.args.event.now c.requires.2)

pub take_record-requires : goal.take_record-requires
take_record-requires g c =
    subst (λ (k : KeptEvents). Fits (known k.records) c.in-Item.record_) (sym c.requires.1)
    (record_fits c.requires.0 c.in-Item.record_
    (subst (λ x. AreHeard (hear x c.requires.0)) c.in-Item.is c.requires.2))
