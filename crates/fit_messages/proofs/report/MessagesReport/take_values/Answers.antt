use Rattle.std.proofs.Common.{◌∙◌, ap, subst, sym}
use Rattle.fit_profile.specs.Looks.{known}
use Rattle.fit_record.specs.Records.{Fits}
use Rattle.fit_messages.specs.Kept.{KeptHeard}
use Rattle.fit_messages.proofs.report.MessagesReport.take_values.Goals as goal

pub spell-requires : goal.spell-requires
spell-requires c =
    subst (λ e. Fits e c.args.record_.now) (sym (c.env.ensures ∙ ap (λ (k : KeptHeard). known k.records) c.self.view_is)) c.requires.fits
