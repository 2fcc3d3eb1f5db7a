use Rattle.fit_csv.proofs.Common.{sym, subst, PartHasRoom, PartStep, row_of, Part}
use Rattle.fit_csv.proofs.SoundSteps.{part-fits, part-room, part-sound}
use Rattle.fit_csv.proofs.Common.{◌∙◌, on_ok_weaker, MatchResult-weaker, err_from_is_err_and, IsMisfit, CanStandNext}
use Rattle.fit_csv.proofs.NextSteps.{settled-afresh, no-memory}
use Rattle.fit_csv.specs.declared.from.misfit.Misfit.TheVariants.{NoMemory}
use Rattle.fit_csv.proofs.from.open_file.OpenFile.take_row.Goals as goal

pub next_part-requires-clause-room : goal.next_part-requires-clause-room
next_part-requires-clause-room c =
    let f = c.args.self.now in
    subst (λ before. PartHasRoom before c.replace-part.result) (sym c.stream.ensures)
    (subst (PartHasRoom f.before) (sym c.replace-part.ensures.value) (part-room f.before f.part c.requires.sound.part.0))

pub add_part-requires-clause-fits : goal.add_part-requires-clause-fits
add_part-requires-clause-fits c =
    let f = c.args.self.now in
    let r = row_of c.args.cells.now in
    let step = subst (λ (part : Part). PartStep c.args.self.now.before part (row_of c.args.cells.now) c.in_ok-part.part) c.replace-part.ensures.value
    (subst (λ before. PartStep before c.replace-part.result (row_of c.args.cells.now) c.in_ok-part.part) c.stream.ensures c.in_ok-part.ensures.ok) in
    part-fits f.before c.in_ok-part.part (part-sound f.before f.part r c.in_ok-part.part c.requires.sound.part step)

pub add_part-requires-clause-same_records : goal.add_part-requires-clause-same_records
add_part-requires-clause-same_records c = c.requires.sound.same_records

pub returns-clause-ok : goal.returns-clause-ok
returns-clause-ok c =
    let step = subst (λ (part : Part). PartStep c.args.self.now.before part (row_of c.args.cells.now) c.in_ok-part.part) c.replace-part.ensures.value
    (subst (λ before. PartStep before c.replace-part.result (row_of c.args.cells.now) c.in_ok-part.part) c.stream.ensures c.in_ok-part.ensures.ok) in
    on_ok_weaker c.add_part.result (λ e. (c.in_ok-part.part, step, e ∙ settled-afresh c.args.self.now c.in_ok-part.part)) c.add_part.ensures.ok

pub returns-clause-err : goal.returns-clause-err
returns-clause-err c =
    MatchResult-weaker c.add_part.result c.add_part.ensures.err (λ x p. p)
    (λ misfit e. no-memory (CanStandNext c.args.self.now.before c.args.self.now.part) (row_of c.args.cells.now) misfit NoMemory e tt)

pub returns-in_err-part-clause-err : goal.returns-in_err-part-clause-err
returns-in_err-part-clause-err c =
    let p = err_from_is_err_and c.from_residual.result c.from_residual.ensures.1 in
    rw (p.1, p.2) (subst (λ (part : Part). IsMisfit (CanStandNext c.args.self.now.before part) (row_of c.args.cells.now) c.in_err-part.field-0.0)
    c.replace-part.ensures.value
    (subst (λ before. IsMisfit (CanStandNext before c.replace-part.result) (row_of c.args.cells.now) c.in_err-part.field-0.0) c.stream.ensures
    c.in_err-part.ensures.err))
