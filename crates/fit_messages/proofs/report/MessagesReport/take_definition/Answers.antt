use Rattle.std.proofs.Common.{◌∙◌, ◌++◌, ◌∷◌, ap, ap₂, refl, subst, sym}
use Rattle.fit_profile.specs.Described.{namings_at}
use Rattle.fit_profile.specs.Looks.{known}
use Rattle.fit_record.specs.Environment.{defined_at, defined_by}
use Rattle.fit_record.specs.Records.{Fits}
use Rattle.fit_messages.specs.Blocks.{definition_block}
use Rattle.fit_messages.specs.Kept.{KeptHeard}
use Rattle.fit_profile.proofs.KnownFacts.{just_defined}
use Rattle.fit_messages.proofs.TakenDefinitions.{definition_kept, definition_told}
use Rattle.fit_messages.proofs.report.MessagesReport.take_definition.Goals as goal

pub put_taken-requires : goal.put_taken-requires
put_taken-requires c =
    let d = c.args.definition.now in
    let before = c.self.inside.stream in
    let fits = subst (Fits (known c.args.self.now.records)) c.requires.same c.requires.fits in (
      defined_by (known before) d,
      ap (λ xs. defined_at (known xs) d.local) (c.in_ok-take.ensures.ok ∙ ap (λ x. x ∷ before) c.requires.same) ∙ just_defined before d fits.local,
      refl,
    )

pub returns-clause-kept : goal.returns-clause-kept
returns-clause-kept c =
    let s = c.self.inside in
    let kept : KeptHeard = record { records = s.stream; files = s.files; definitions = s.definitions; numbers = s.numbers; place = s.place } in
    definition_kept kept c.args.self.now c.args.record_.now c.args.definition.now c.take.new.self c.self.view_is c.requires.same c.in_ok-take.ensures.ok
    c.from.result (c.from.ensures ∙ c.length_of-length.ensures)

pub returns-clause-text : goal.returns-clause-text
returns-clause-text c =
    let s = c.self.inside in
    let d = c.args.definition.now in
    let kept : KeptHeard = record { records = s.stream; files = s.files; definitions = s.definitions; numbers = s.numbers; place = s.place } in
    let p = defined_by (known s.stream) d in
    let fits = subst (Fits (known c.args.self.now.records)) c.requires.same c.requires.fits in
    let here = ap (λ xs. defined_at (known xs) d.local) (c.in_ok-take.ensures.ok ∙ ap (λ x. x ∷ s.stream) c.requires.same)
    ∙ just_defined s.stream d fits.local in
    definition_told kept c.args.self.now c.args.record_.now d c.take.new.self c.self.view_is c.requires.same c.in_ok-take.ensures.ok
    c.args.text.now.items c.put_taken.new.text.items
    (c.in_ok-put_taken.ensures p here
    ∙ ap₂ (λ file place. c.args.text.now.items ++ definition_block file place s.definitions p (namings_at c.take.new.self d.local))
    (c.here-place.ensures.file ∙ sym (ap (λ (k : KeptHeard). k.files) c.self.view_is))
    (c.here-place.ensures.place ∙ sym (ap (λ (k : KeptHeard). k.place) c.self.view_is)))
