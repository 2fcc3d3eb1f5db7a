use Rattle.fit_step.proofs.Common.{[], refl, sym, subst, take, PassesInSection}
use Rattle.fit_step.proofs.SkippedRecords.{none_passed, skipped_passed}
use Rattle.fit_step.proofs.skipping.skip_in_section.Goals as goal

pub returns-in_default-clause-passes : goal.returns-in_default-clause-passes
returns-in_default-clause-passes g c = ([], refl, none_passed c.args.env.now c.args.position.now c.args.in_progress.now)

pub returns-then-position-lt6-clause-passes : goal.returns-then-position-lt6-clause-passes
returns-then-position-lt6-clause-passes g c = ([], refl, none_passed c.args.env.now c.args.position.now c.args.in_progress.now)

pub returns-then-holds_no_definition-clause-passes : goal.returns-then-holds_no_definition-clause-passes
returns-then-holds_no_definition-clause-passes g c = ([], refl, none_passed c.args.env.now c.args.position.now c.args.in_progress.now)

pub returns-then-size-gt0-clause-passes : goal.returns-then-size-gt0-clause-passes
returns-then-size-gt0-clause-passes g c = ([], refl, c.keep_first.ensures.passes c.in-None.is)

pub returns-clause-passes : goal.returns-clause-passes
returns-clause-passes g c =
    let e = c.args.env.now in
    let p = c.args.position.now in
    let s = c.skip_whole in
    let piece = c.args.piece.now in
    let (records, count, skips) = s.ensures.skips in (
      records,
      count,
      subst (λ o. PassesInSection e p o s.new.env s.new.position o (take s.result.0 piece) records) (sym c.in-None.is)
          (skipped_passed e s.new.env p s.new.position piece s.result.0 records s.ensures.within skips),
    )
