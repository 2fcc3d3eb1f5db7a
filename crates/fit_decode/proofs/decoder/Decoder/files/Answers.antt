use Rattle.fit_decode.proofs.Common.{◌∙◌, refl}
use Rattle.fit_decode.proofs.FilesEnded.{files_ended}
use Rattle.fit_decode.proofs.Feeding.{none_refused, not_latched, reason_kept}
use Rattle.fit_decode.proofs.decoder.Decoder.files.Goals as goal

pub returns-in-Latched-clause-files : goal.returns-in-Latched-clause-files
returns-in-Latched-clause-files g c = λ fresh. absurd (reason_kept c.self.inside c.self.invariant c.args.self.now c.self.view_is _ c.in-Latched.is fresh)

pub returns-clause-refused : goal.returns-clause-refused
returns-clause-refused g c =
    none_refused c.self.inside c.self.invariant c.args.self.now c.self.view_is (not_latched c.self.inside.stage.section c.in_default.not-Latched)

pub returns-clause-files : goal.returns-clause-files
returns-clause-files g c = λ fresh fs k come. c.from.ensures ∙ files_ended c.self.inside c.self.invariant c.args.self.now c.self.view_is fresh fs k come

pub returns-in-Latched-clause-refused : goal.returns-in-Latched-clause-refused
returns-in-Latched-clause-refused g c = λ reason is. refl
