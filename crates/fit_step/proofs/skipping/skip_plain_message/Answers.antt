use Rattle.fit_step.proofs.Common.{◌+◌, [], ◌∷◌, length, refl, Data, arith}
use Rattle.fit_record.specs.MessageBytes.{message_in}
use Rattle.fit_step.proofs.SkippedRecords.{skipped_after, one_learned}
use Rattle.fit_step.proofs.skipping.skip_plain_message.Goals as goal

pub overflow_cast-position : goal.overflow_cast-position
overflow_cast-position g c = omega (arith, c.in-Some.ensures.plain.left)

pub overflow_sub-position : goal.overflow_sub-position
overflow_sub-position g c = omega (arith, c.in-Some.ensures.plain.left)

pub returns : goal.returns
returns g c =
    let e = c.args.env.now in
    let m = c.in-Some.message in
    let told = c.in-Some.ensures.plain in
    record {
      within = told.stands.within;
      none = λ none. absurd (omega (arith, none));
      message = λ some. (
        message_in m,
        skipped_after e e c.args.position.now c.args.in_progress.now c.args.piece.now (1 + length m.body.now) (Data (message_in m) ∷ []) told.idle told.left
            (one_learned e e (message_in m) _ told.stands.spelled told.learned),
      );
      whole = c.in-Some.ensures.whole;
    }

pub returns-in_default : goal.returns-in_default
returns-in_default g c = record {
  within = omega arith;
  none = λ _. refl;
  message = λ some. absurd (omega (arith, some));
  whole = λ idle size has large. absurd (c.in_default.ensures.whole idle size has large);
}
